-- A swapped merge on bytes: where a merge is written the swapped one is written too, and each row's count is the same. Assumes nothing.
use mathlib.Core.Path.{◌≡◌, sym, ◌∙◌, ap}
use mathlib.Core.Bool.{Bool, true, ◌&&◌}
use mathlib.Core.List.{List, map}
use Rattle.text.specs.Text.{Bytes, same}
use Rattle.text.proofs.Basics.{and_left, same_refl}
use Rattle.algebra.specs.Tree.{Pattern}
use Rattle.algebra.specs.Reader.{reads}
use Rattle.algebra.specs.Layout.{layout}
use Rattle.algebra.specs.Bounded.{layout_query}
use Rattle.scoping.specs.Premises.{inside, different_positions}
use Rattle.answers.specs.Outcome.{Outcome, written, then, refused_unless}
use Rattle.counting.specs.Bag.{count}
use Rattle.counting.specs.Row.{same_row}
use Rattle.counting.specs.Answer.{answer}
use Rattle.merging.specs.Sides.{Pair, lefts, rights}
use Rattle.merging.specs.Request.{tree, as_project, read_joins, Request, all_inside}
use Rattle.merging.specs.Merge.{merge_project_patterns, merge_sides, merge_trees, merge_patterns_outcome, is_select_or_ask, mergeable, over, merge_queries_outcome}
use Rattle.merging.specs.Asked.{Trees, Lists, query_of, Queries, behind_head}
use Rattle.merging.specs.bridge.Twice.{none_twice}
use Rattle.merging.proofs.Given.{test-written, sides-merged}
use Rattle.demand3.specs.Demand3.{Premises, Counted}
use Rattle.demand3.proofs.Theorem.{merge-patterns-counts, merge-queries-counts}
use Rattle.demand3.proofs.Once.{read-once, merge-patterns-counts-read, merge-queries-counts-read}
use Rattle.laws.specs.Swapped.{turned, swapped, row_of, SwapCounted}
use Rattle.laws.proofs.Inside.{Inside, inside_of, once-of}
use Rattle.laws.proofs.Readable.{row_read}
use Rattle.laws.proofs.Swapped.{lefts-turned, rights-turned, swapped-expected}

-- ---- requests that are merged

-- no refusal by 3 or 10
record Allowed (m : Request) : Type 0 where
  all-inside : all_inside m ≡ true
  none-twice : none_twice m.joins ≡ true

-- what comes of a request's trees
abbrev outcome_of : Request → (Pattern → Outcome) → Outcome
outcome_of m k = merge_trees (tree m.left) (tree m.right) m.joins m.left_constants m.right_constants k

was-allowed : (m : Request) (k : Pattern → Outcome) (b : Bytes) → outcome_of m k ≡ written b → Allowed m
unfolding merge_trees as_project
was-allowed m k b e =
    let x = test-written 3 (all_inside m) (merge_sides m k) b e in
    record { all-inside = x.0; none-twice = (test-written 10 (none_twice m.joins) (k (merge_project_patterns m)) b (sym (sides-merged m k) ∙ x.1)).0 }

is-merged : (m : Request) (k : Pattern → Outcome) → Allowed m → outcome_of m k ≡ k (merge_project_patterns m)
unfolding merge_trees as_project
is-merged m k w = ap (λ (t : Bool). refused_unless 3 t (merge_sides m k)) w.all-inside ∙ sides-merged m k ∙ ap (λ (t : Bool). refused_unless 10 t (k (merge_project_patterns m))) w.none-twice

-- ---- the premises of the swapped merge

premises-swapped : (m : Request) → Premises m → Premises (swapped m)
premises-swapped m s = record { left = s.right; right = s.left }

once-swapped : (js : List Pair) → none_twice js ≡ true → none_twice (map turned js) ≡ true
unfolding none_twice
once-swapped js o =
    let x = once-of js o in
    let a : different_positions (lefts (map turned js)) ≡ true = ap different_positions (lefts-turned js) ∙ x.1 in
    let b : different_positions (rights (map turned js)) ≡ true = ap different_positions (rights-turned js) ∙ x.0 in
    λ k. a k && b k

inside-swapped : (m : Request) → Inside m → all_inside (swapped m) ≡ true
unfolding all_inside
inside-swapped m i =
    let a : inside m.right.columns (lefts (map turned m.joins)) ≡ true = ap (inside m.right.columns) (lefts-turned m.joins) ∙ i.right_joins in
    let b : inside m.left.columns (rights (map turned m.joins)) ≡ true = ap (inside m.left.columns) (rights-turned m.joins) ∙ i.left_joins in
    λ k. (a k && b k) && (i.right_constants k && i.left_constants k)

swapped-allowed : (m : Request) → Allowed m → Allowed (swapped m)
swapped-allowed m w = record { all-inside = inside-swapped m (inside_of m w.all-inside); none-twice = once-swapped m.joins w.none-twice }

-- ---- the promise

promised : (m : Request) (b b' : Bytes) → Allowed m → Counted m b → Counted (swapped m) b' → SwapCounted m b b'
promised m b b' w c d = record {
  merged = c.merged;
  merged' = d.merged;
  read = c.read;
  read' = d.read;
  rows = row_read m (once-of m.joins w.none-twice).1;
  counts = λ s k g x y h.
      let t = inside_of m w.all-inside in
      let u = once-of m.joins w.none-twice in
      let s' = premises-swapped m s in
      ap (λ (cs : List Bytes). count same_row (row_of m x y) (answer cs g (tree c.merged))) (c.columns s) ∙ c.counts s g (row_of m x y)
      ∙ sym (swapped-expected m t.left_joins t.right_joins u.0 u.1 k g x y h)
      ∙ sym (ap (λ (cs : List Bytes). count same_row (row_of (swapped m) y x) (answer cs g (tree d.merged))) (d.columns s') ∙ d.counts s' g (row_of (swapped m) y x));
}

-- the lists of the swapped merge, where the second join list has the pairs turned round
lists-swapped : (pairs pairs' leftConstants rightConstants : Bytes) (js : List Pair) (m : Request) → read_joins pairs ≡ reads js → read_joins pairs' ≡ reads (map turned js)
    → Lists pairs leftConstants rightConstants m → Lists pairs' rightConstants leftConstants (swapped m)
lists-swapped pairs pairs' leftConstants rightConstants js m j t l = record {
  joins = t ∙ ap (λ (l : List Pair). reads (map turned l)) (read-once (read_joins pairs) js m.joins j l.joins);
  left_constants = l.right_constants;
  right_constants = l.left_constants;
}

-- ---- merge patterns

patterns-are : (left right pairs leftConstants rightConstants : Bytes) (m : Request) → Trees left right m → Lists pairs leftConstants rightConstants m
    → merge_patterns_outcome left right pairs leftConstants rightConstants ≡ outcome_of m (λ t. written (layout t))
unfolding merge_patterns_outcome
patterns-are left right pairs leftConstants rightConstants m s a = λ i.
    then (s.left-tree i) λ p. then (s.right-tree i) λ q. then (a.joins i) λ js. then (a.left_constants i) λ ks. then (a.right_constants i) λ ls. merge_trees p q js ks ls λ t. written (layout t)

pub patterns-swapped : (left right pairs pairs' leftConstants rightConstants b : Bytes) (js : List Pair)
    → merge_patterns_outcome left right pairs leftConstants rightConstants ≡ written b → read_joins pairs ≡ reads js → read_joins pairs' ≡ reads (map turned js)
    → (m : Request) × (b' : Bytes) × Trees left right m × Lists pairs leftConstants rightConstants m
    × (merge_patterns_outcome right left pairs' rightConstants leftConstants ≡ written b') × SwapCounted m b b'
patterns-swapped left right pairs pairs' leftConstants rightConstants b js e j t =
    let x = merge-patterns-counts left right pairs leftConstants rightConstants b e in
    let m : Request = x.0 in
    let w = was-allowed m (λ t. written (layout t)) b (sym (patterns-are left right pairs leftConstants rightConstants m x.1 x.2) ∙ e) in
    let s : Trees right left (swapped m) = record { left-tree = x.1.right-tree; right-tree = x.1.left-tree } in
    let a = lists-swapped pairs pairs' leftConstants rightConstants js m j t x.2 in
    let b' : Bytes = layout (merge_project_patterns (swapped m)) in
    let e' = patterns-are right left pairs' rightConstants leftConstants (swapped m) s a ∙ is-merged (swapped m) (λ t. written (layout t)) (swapped-allowed m w) in
    (m, b', x.1, x.2, e', promised m b b' w x.3 (merge-patterns-counts-read right left pairs' rightConstants leftConstants b' (swapped m) s a e'))

-- ---- merge queries

module _ (kind dataset base : Bytes) where
  abbrev query : Pattern → Outcome
  query t = written (layout_query (query_of kind dataset base t))

  abbrev heads : Request → Bool
  heads m = mergeable (query_of kind dataset base (tree m.left)) (query_of kind dataset base (tree m.right))

  queries-are : (left right pairs leftConstants rightConstants : Bytes) (m : Request) → Queries left right kind dataset base m → Lists pairs leftConstants rightConstants m
      → merge_queries_outcome left right pairs leftConstants rightConstants ≡ refused_unless 5 (heads m) (outcome_of m query)
  unfolding merge_queries_outcome
  queries-are left right pairs leftConstants rightConstants m s a = λ i.
      then (s.left_query i) λ p. then (s.right_query i) λ q. then (a.joins i) λ js. then (a.left_constants i) λ ks. then (a.right_constants i) λ ls.
      refused_unless 5 (mergeable p q) (merge_trees p.tree q.tree js ks ls λ t. written (layout_query (over p t)))

  -- two heads are one both ways
  heads-swapped : (m : Request) → heads m ≡ true → heads (swapped m) ≡ true
  unfolding mergeable
  heads-swapped m h =
      let k = and_left (is_select_or_ask kind) (same kind kind && (same dataset dataset && same base base)) h in
      λ i. k i && (same_refl kind i && (same_refl dataset i && same_refl base i))

pub queries-swapped : (left right pairs pairs' leftConstants rightConstants b : Bytes) (js : List Pair)
    → merge_queries_outcome left right pairs leftConstants rightConstants ≡ written b → read_joins pairs ≡ reads js → read_joins pairs' ≡ reads (map turned js)
    → (m : Request) × (kind dataset base text b' text' : Bytes) × Queries left right kind dataset base m × Lists pairs leftConstants rightConstants m
    × (b ≡ behind_head kind dataset base text) × (merge_queries_outcome right left pairs' rightConstants leftConstants ≡ written b') × (b' ≡ behind_head kind dataset base text') × SwapCounted m text text'
queries-swapped left right pairs pairs' leftConstants rightConstants b js e j t =
    let x = merge-queries-counts left right pairs leftConstants rightConstants b e in
    let m : Request = x.0 in
    let kind : Bytes = x.1 in
    let dataset : Bytes = x.2 in
    let base : Bytes = x.3 in
    let h = test-written 5 (heads kind dataset base m) (outcome_of m (query kind dataset base)) b (sym (queries-are kind dataset base left right pairs leftConstants rightConstants m x.5 x.6) ∙ e) in
    let w = was-allowed m (query kind dataset base) b h.1 in
    let s : Queries right left kind dataset base (swapped m) = record { left_query = x.5.right_query; right_query = x.5.left_query } in
    let a = lists-swapped pairs pairs' leftConstants rightConstants js m j t x.6 in
    let b' : Bytes = layout_query (query_of kind dataset base (merge_project_patterns (swapped m))) in
    let e' : merge_queries_outcome right left pairs' rightConstants leftConstants ≡ written b' =
    queries-are kind dataset base right left pairs' rightConstants leftConstants (swapped m) s a
    ∙ ap (λ (t : Bool). refused_unless 5 t (outcome_of (swapped m) (query kind dataset base))) (heads-swapped kind dataset base m h.0)
    ∙ is-merged (swapped m) (query kind dataset base) (swapped-allowed m w) in
    let d = merge-queries-counts-read right left pairs' rightConstants leftConstants b' kind dataset base (swapped m) s a e' in
    (m, kind, dataset, base, x.4, b', d.0, x.5, x.6, x.7, e', d.1, promised m x.4 d.0 w x.8 d.2)
