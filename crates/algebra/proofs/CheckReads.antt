-- For every text and every bounds the check line by line gives the number that the reader gives, and else all that is counted in what the reader reads. Assumes nothing.
use mathlib.Core.Path.{◌≡◌, sym, ◌∙◌, ap, subst}
use mathlib.Core.List.{List, [], ◌∷◌}
use Prim.Native.Nat.{◌≤◌}
use native.Mathlib.Omega.{arith}
use Rattle.text.specs.Text.{Bytes, Line}
use Rattle.algebra.specs.Query.{BindingSet, Filter, leaf, ref, function}
use Rattle.algebra.specs.Depth.{depth_filter}
use Rattle.algebra.specs.Tally.{Limits, bounds, Tally, start, tally, tally_query, tally_sets, tally_filters}
use Rattle.algebra.specs.Reader.{got, number-of, read_text}
use Rattle.algebra.specs.Reading.{tree}
use Rattle.algebra.specs.ListReading.{query, binding_set, binding_sets, filter_in, filters}
use Rattle.algebra.specs.Texts.{read_tree, read_query, read_sets, read_filters}
use Rattle.algebra.specs.bridge.Table.{patterns, heads, sets, parts}
use Rattle.algebra.specs.bridge.Machine.{want, done, entries, check_number, check_text}
use Rattle.algebra.specs.bridge.Verdict.{checked}
use Rattle.algebra.proofs.Grow.{In, start-in}
use Rattle.algebra.proofs.SoundLists.{set-sound, filter-sound}
use Rattle.algebra.proofs.Exactly.{checks, check-number}
use Rattle.algebra.proofs.Theorem.{tree-matches, query-matches, sets-match, filters-match}
use Rattle.algebra.proofs.Agree.{tree-runs}
use Rattle.algebra.proofs.AgreeLists.{query-runs, set_runs, filter_runs, entries-run}

filter-deep : (f : Filter) → 1 ≤ depth_filter f
unfolding depth_filter
filter-deep (leaf v) = omega arith
filter-deep (ref k) = omega arith
filter-deep (function w n fs) = omega arith

module _ (β : Limits) where
  pub check-reads : (s : Bytes) → check_text β done (want patterns β.depth 0 ∷ []) s ≡ checked tally (read_text β (tree β) s)
  check-reads s = checks β _ _ _ _ _ _ (tree-matches β) done (want patterns β.depth 0 ∷ []) (λ ls. tree-runs β 0 ls start done []) s

  pub check-reads-query : (s : Bytes) → check_text β done (want heads β.depth 0 ∷ []) s ≡ checked tally_query (read_text β (query β) s)
  check-reads-query s = checks β _ _ _ _ _ _ (query-matches β) done (want heads β.depth 0 ∷ []) (λ ls. query-runs β 0 ls start done []) s

  pub check-reads-sets : (s : Bytes) → check_text β (entries β.entries sets 1) [] s ≡ checked tally_sets (read_text β (binding_sets β) s)
  check-reads-sets s = checks β _ _ _ _ _ _ (sets-match β) (entries β.entries sets 1) [] (λ ls. entries-run β (binding_set β 1) (binding_set β 0) sets 1 (set_runs β 1 0) (set_runs β 0 0) stay none β.entries ls start (start-in β)) s
    where
      stay : (s t : List Line) (m n : Tally) (a : BindingSet) → In β m → binding_set β 1 s m ≡ got a t n → In β n
      stay s t m n a o e = let x = set-sound β 1 s t m n a o e in subst (In β) (sym x.0) x.1

      none : (s t : List Line) (m n : Tally) (a : BindingSet) → In β m → binding_set β 0 s m ≡ got a t n → ⊥
      none s t m n a o e = let x = set-sound β 0 s t m n a o e in let h : 1 ≤ 0 = x.2.2 in omega arith

  pub check-reads-filters : (s : Bytes) → check_text β (entries β.entries parts β.depth) [] s ≡ checked tally_filters (read_text β (filters β) s)
  check-reads-filters s = checks β _ _ _ _ _ _ (filters-match β) (entries β.entries parts β.depth) [] (λ ls. entries-run β (filter_in β β.depth) (filter_in β 0) parts β.depth (filter_runs β β.depth 0) (filter_runs β 0 0) stay none β.entries ls start (start-in β)) s
    where
      stay : (s t : List Line) (m n : Tally) (a : Filter) → In β m → filter_in β β.depth s m ≡ got a t n → In β n
      stay s t m n a o e = let x = filter-sound β β.depth s t m n a o e in subst (In β) (sym x.0) x.1

      none : (s t : List Line) (m n : Tally) (a : Filter) → In β m → filter_in β 0 s m ≡ got a t n → ⊥
      none s t m n a o e = let x = filter-sound β 0 s t m n a o e in let h = filter-deep a in omega arith

-- ---- within the specification's bounds, and by number

pub check-tree : (s : Bytes) → check_text bounds done (want patterns bounds.depth 0 ∷ []) s ≡ checked tally (read_tree s)
unfolding read_tree
check-tree s = check-reads bounds s

pub check-query : (s : Bytes) → check_text bounds done (want heads bounds.depth 0 ∷ []) s ≡ checked tally_query (read_query s)
unfolding read_query
check-query s = check-reads-query bounds s

pub check-sets : (s : Bytes) → check_text bounds (entries bounds.entries sets 1) [] s ≡ checked tally_sets (read_sets s)
unfolding read_sets
check-sets s = check-reads-sets bounds s

pub check-filters : (s : Bytes) → check_text bounds (entries bounds.entries parts bounds.depth) [] s ≡ checked tally_filters (read_filters s)
unfolding read_filters
check-filters s = check-reads-filters bounds s

pub tree-number : (s : Bytes) → check_number (check_text bounds done (want patterns bounds.depth 0 ∷ []) s) ≡ number-of (read_tree s)
tree-number s = ap check_number (check-tree s) ∙ check-number tally (read_tree s)

pub query-number : (s : Bytes) → check_number (check_text bounds done (want heads bounds.depth 0 ∷ []) s) ≡ number-of (read_query s)
query-number s = ap check_number (check-query s) ∙ check-number tally_query (read_query s)

pub sets-number : (s : Bytes) → check_number (check_text bounds (entries bounds.entries sets 1) [] s) ≡ number-of (read_sets s)
sets-number s = ap check_number (check-sets s) ∙ check-number tally_sets (read_sets s)

pub filters-number : (s : Bytes) → check_number (check_text bounds (entries bounds.entries parts bounds.depth) [] s) ≡ number-of (read_filters s)
filters-number s = ap check_number (check-filters s) ∙ check-number tally_filters (read_filters s)
