-- What filters needs: its tree and 24 times its filters, as `ref 0` can become `term` and a column of 129 bytes under `filter`. Assumes nothing.
use Prim.Native.Nat.{ℕ, ◌+◌, ◌*◌, ◌≤◌}
use mathlib.Core.Path.{◌≡◌, ap}
use mathlib.Core.Bool.{Bool, true, false, cond}
use mathlib.Core.List.{List, [], ◌∷◌}
use mathlib.Core.Option.{Option, none, some}
use native.Mathlib.Omega.{arith}
use lib.ListN.{length}
use Rattle.text.specs.Text.{Bytes, Line}
use Rattle.text.specs.Field.{variable}
use Rattle.algebra.specs.Tree.{Pattern, Expression}
use Rattle.algebra.specs.Query.{Filter}
use Rattle.algebra.specs.Layout.{put, put_e, put_arity, put_filter, put_filters}
use Rattle.algebra.specs.Bounded.{layout_filters}
use Rattle.algebra.specs.Given.{read_given_tree}
use Rattle.algebra.specs.Texts.{read_filters}
use Rattle.algebra.specs.Valid.{AllFit, Valid, ValidFilter, ValidFilters}
use Rattle.algebra.proofs.Given.{tree-given}
use Rattle.algebra.proofs.Theorem.{filters-exactly}
use Rattle.scoping.specs.Sets.{all}
use Rattle.negating.specs.Projections.{outermost_projection}
use Rattle.filtering.specs.IfFound.{if_found}
use Rattle.filtering.specs.Functions.{is_constant_true, try_expression_from_tree}
use Rattle.filtering.specs.Filters.{placed_expression, and_those, expressions, both, conjunction, filtered, pattern_with_filters, references_inside, filters_outcome}
use Rattle.room.specs.Room.{filters_room}
use Rattle.room.proofs.Enough.{Enough, then-enough, test-enough, NotNine, then-not-nine, test-not-nine}
use Rattle.walking.proofs.Sizes.{width, size, text-size, tree-size}
use Rattle.room.proofs.Added.{put_same, put_e-same}
use Rattle.room.proofs.Modified.{modified-size}
use Rattle.room.proofs.Expressed.{Given, filter-some, expressed-size}

-- the bytes of expressions, with nine for the `filter` or `and` above each
unfoldable weight : List Expression → ℕ
unfolding put_e size
weight [] = 0
weight (e ∷ es) = size (put_e e []) + 9 + weight es

conjunction-size : (e : Expression) (ds : List Expression) (t : List Line) → size (put_e (conjunction e ds) t) ≤ size (put_e e t) + weight ds
unfolding conjunction weight put_e put_arity size width
conjunction-size e [] t = omega arith
conjunction-size e (d ∷ ds) t = omega (arith, conjunction-size (both e d) ds t, put_e-same e (put_e d t) t, put_e-same d t [])

filtered-size : (es : List Expression) (p : Pattern) (t : List Line) → size (put (filtered es p) t) ≤ size (put p t) + weight es
unfolding filtered weight put size width
filtered-size [] p t = omega arith
filtered-size (e ∷ es) p t = omega (arith, put_same p (put_e (conjunction e es) t) t, conjunction-size e es t, put_e-same e t [])

module _ (cs : List Bytes) (columns : AllFit variable cs) where
  -- a filter that is placed, or not
  one_more : (f : Filter) (b : Bool) (es : List Expression) (u : List Line) → ValidFilter f → weight es ≤ 24 * size u → weight (and_those (cond b none (try_expression_from_tree cs f)) es) ≤ 24 * size (put_filter f u)
  unfolding weight size
  one_more f true es u v h = omega (arith, filter-some f u)
  one_more f false es u v h = go (try_expression_from_tree cs f) (expressed-size cs columns f [] (weight es) u v (omega arith))
    where
      go : (o : Option Expression) → Given o (λ e. size (put_e e []) + weight es + 9 ≤ 24 * size (put_filter f u)) → weight (and_those o es) ≤ 24 * size (put_filter f u)
      go none r = omega (arith, filter-some f u)
      go (some e) r = omega arith

  expressions-size : (fs : List Filter) → ValidFilters fs → weight (expressions cs fs) ≤ 24 * size (put_filters fs [])
  unfolding expressions placed_expression ValidFilters put_filters weight
  expressions-size [] v = omega arith
  expressions-size (f ∷ fs) v = one_more f (is_constant_true f) (expressions cs fs) (put_filters fs []) v.0 (expressions-size fs v.1)

with-filters-size : (p : Pattern) (fs : List Filter) → Valid p → ValidFilters fs → size (put (pattern_with_filters p fs).pattern []) ≤ size (put p []) + 24 * size (put_filters fs [])
unfolding pattern_with_filters
with-filters-size p fs v w =
    modified-size (λ cs inner. filtered (expressions cs fs) inner) (24 * size (put_filters fs [])) (λ cs q t h. omega (arith, filtered-size (expressions cs fs) q t, expressions-size cs h fs w)) p [] v

filters-size : (fs : List Filter) → length (layout_filters fs) ≡ size (put_filters fs [])
unfolding layout_filters
filters-size fs = text-size (put_filters fs [])

pub filters-enough : (tree filters : Bytes) → Enough (filters_room (length tree) (length filters)) (filters_outcome tree filters)
unfolding filters_outcome filters_room Enough
filters-enough tree filters =
    let room = filters_room (length tree) (length filters) in
    then-enough room (read_given_tree tree) _ λ p e. then-enough room (read_filters filters) _ λ fs i.
    test-enough room 3 (if_found (outermost_projection p) λ cs. all (references_inside cs) fs) _ (λ z. omega arith) λ a.
    let y = tree-given tree p e in
    let z = (filters-exactly filters fs).0 i in
    omega (arith, with-filters-size p fs y.valid z.1, tree-size p, tree-size (pattern_with_filters p fs).pattern, y.size, filters-size fs, ap length z.0)

pub filters-not-nine : (tree filters : Bytes) → NotNine (filters_outcome tree filters)
unfolding filters_outcome NotNine
filters-not-nine tree filters =
    then-not-nine (read_given_tree tree) _ λ p. then-not-nine (read_filters filters) _ λ fs.
    test-not-nine 3 (if_found (outermost_projection p) λ cs. all (references_inside cs) fs) _ (λ z. omega arith) tt
