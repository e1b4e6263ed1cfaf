-- What is counted only grows: where the whole is within the bounds, each line was. Assumes nothing.
use mathlib.Core.Path.{◌≡◌}
use mathlib.Core.Bool.{Bool, true, false, cond, ◌&&◌}
use mathlib.Core.List.{List, [], ◌∷◌, ◌++◌}
use Prim.Native.Nat.{suc, ◌+◌, ◌≤◌}
use native.Mathlib.Omega.{arith}
use lib.ListN.{length, length-append}
use lib.Dec.{leb}
use borrow.Author.Tests.{leb-true, le-leb}
use Rattle.text.specs.Text.{Bytes, Line}
use Rattle.text.specs.Field.{is_var}
use Rattle.text.proofs.Basics.{and_left, and_right}
use Rattle.algebra.specs.Tree.{Triple, Pattern, Expression, Condition, Expressions, Orders, Aggregates}
use Rattle.algebra.specs.Query.{PairList, Pair, unique, BindingSet, Filter, Filters}
use Rattle.algebra.specs.Valid.{mem}
use Rattle.algebra.specs.Tally.{Limits, Tally, start, notes, noted, headed, paired, within, tally_triples, tally_rows, tally, tally_e, tally_c, tally_es, tally_os, tally_as, tally_pairs, tally_sets, tally_filter, tally_parts, tally_filters}
use Rattle.algebra.proofs.Walk.{Keeps, walk-triples, walk, walk_e, walk_c, walk_es, walk_os, walk_as, walk-sets, walk-filter, walk-parts, walk-filters}

-- within the bounds, as orders
pub record Counts (β : Limits) (m : Tally) : Type 0 where
  pub lines : m.lines ≤ β.lines
  pub wide : m.wide ≤ β.columns
  pub names : length m.names ≤ β.names

pub notes-grow : (fs ns : List Bytes) → (length ns ≤ length (notes fs ns)) × (length (notes fs ns) ≤ length ns + length fs)
unfolding notes
notes-grow [] ns = (omega arith, omega arith)
notes-grow (f ∷ fs) ns =
    let a = one (is_var f) (mem f ns) in
    let b = notes-grow fs (cond (is_var f) (cond (mem f ns) ns (ns ++ (f ∷ []))) ns) in
    (omega arith, omega arith)
  where
    one : (b c : Bool) → (length ns ≤ length (cond b (cond c ns (ns ++ (f ∷ []))) ns)) × (length (cond b (cond c ns (ns ++ (f ∷ []))) ns) ≤ suc (length ns))
    one true true = (omega arith, omega arith)
    one true false = (simp length-append (omega arith), simp length-append (omega arith))
    one false c = (omega arith, omega arith)

module _ (β : Limits) where
  abbrev pub In : Tally → Type 0
  In m = within β m ≡ true

  pub counts : (m : Tally) → In m → Counts β m
  unfolding within
  counts m h =
      let r = and_right (leb m.lines β.lines) (leb m.wide β.columns && leb (length m.names) β.names) h in
      record {
        lines = leb-true m.lines β.lines (and_left (leb m.lines β.lines) (leb m.wide β.columns && leb (length m.names) β.names) h);
        wide = leb-true m.wide β.columns (and_left (leb m.wide β.columns) (leb (length m.names) β.names) r);
        names = leb-true (length m.names) β.names (and_right (leb m.wide β.columns) (leb (length m.names) β.names) r);
      }

  pub in_bounds : (m : Tally) → Counts β m → In m
  unfolding within
  in_bounds m b = rw (le-leb m.lines β.lines b.lines, le-leb m.wide β.columns b.wide, le-leb (length m.names) β.names b.names)

  pub start-in : In start
  start-in = in_bounds start (record { lines = omega arith; wide = omega arith; names = omega arith })

  pub grow-noted : (fs : List Bytes) (m : Tally) → In (noted fs m) → In m
  unfolding noted
  grow-noted fs m h =
      let b = counts (noted fs m) h in
      let g = (notes-grow fs m.names).0 in
      in_bounds m (record { lines = omega (arith, b.lines); wide = b.wide; names = omega (arith, b.names) })

  grow-headed : (fs : List Bytes) (m : Tally) → In (headed fs m) → In m
  unfolding headed
  grow-headed fs m h =
      let b = counts (headed fs m) h in
      let g = (notes-grow fs m.names).0 in
      in_bounds m (record { lines = omega (arith, b.lines); wide = omega (arith, b.wide); names = omega (arith, b.names) })

  grow-paired : (f : Bytes) (m : Tally) → In (paired f m) → In m
  unfolding paired
  grow-paired f m h =
      let b = counts (paired f m) h in
      let g = length-append m.names (f ∷ []) in
      in_bounds m (record { lines = omega (arith, b.lines); wide = b.wide; names = omega (arith, b.names, g) })

  -- what is within the bounds now was so at m
  abbrev Was : Tally → List Line → Tally → Type 0
  Was m s n = In n → In m

  was : (m : Tally) → Keeps (Was m)
  was m = record { noted = λ l s fs n h i o. i (grow-noted fs n o); headed = λ w cs s n i o. i (grow-headed cs n o) }

  pub grow-triples : (ts : List Triple) (m : Tally) → In (tally_triples ts m) → In m
  grow-triples ts m = walk-triples (Was m) (was m) ts [] m (λ o. o)

  pub grow-rows : {A : Type 0} (rs : List A) (m : Tally) → In (tally_rows rs m) → In m
  unfolding tally_rows
  grow-rows [] m o = o
  grow-rows (r ∷ rs) m o = grow-noted [] m (grow-rows rs (noted [] m) o)

  pub grow : (p : Pattern) (m : Tally) → In (tally p m) → In m
  grow p m = walk (Was m) (was m) p [] m (λ o. o)

  pub grow_e : (e : Expression) (m : Tally) → In (tally_e e m) → In m
  grow_e e m = walk_e (Was m) (was m) e [] m (λ o. o)

  pub grow_c : (c : Condition) (m : Tally) → In (tally_c c m) → In m
  grow_c c m = walk_c (Was m) (was m) c [] m (λ o. o)

  pub grow_es : (es : Expressions) (m : Tally) → In (tally_es es m) → In m
  grow_es es m = walk_es (Was m) (was m) es [] m (λ o. o)

  pub grow_os : (os : Orders) (m : Tally) → In (tally_os os m) → In m
  grow_os os m = walk_os (Was m) (was m) os [] m (λ o. o)

  pub grow_as : (rs : Aggregates) (m : Tally) → In (tally_as rs m) → In m
  grow_as rs m = walk_as (Was m) (was m) rs [] m (λ o. o)

  pub grow-sets : (xs : List BindingSet) (m : Tally) → In (tally_sets xs m) → In m
  grow-sets xs m = walk-sets (Was m) (was m) xs [] m (λ o. o)

  pub grow-filter : (f : Filter) (m : Tally) → In (tally_filter f m) → In m
  grow-filter f m = walk-filter (Was m) (was m) f [] m (λ o. o)

  pub grow-parts : (fs : Filters) (m : Tally) → In (tally_parts fs m) → In m
  grow-parts fs m = walk-parts (Was m) (was m) fs [] m (λ o. o)

  pub grow-filters : (fs : List Filter) (m : Tally) → In (tally_filters fs m) → In m
  grow-filters fs m = walk-filters (Was m) (was m) fs [] m (λ o. o)

  pub grow-pairs : (κ : PairList) (xs : List Pair) (m : Tally) → In (tally_pairs κ xs m) → In m
  unfolding tally_pairs
  grow-pairs κ [] m o = o
  grow-pairs κ (x ∷ xs) m o = go (unique κ) (grow-pairs κ xs (cond (unique κ) (paired x.first m) (noted [] m)) o)
    where
      go : (b : Bool) → In (cond b (paired x.first m) (noted [] m)) → In m
      go true i = grow-paired x.first m i
      go false i = grow-noted [] m i
