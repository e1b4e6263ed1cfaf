-- What without needs: three times both queries, and 84 bytes as a merge. Assumes nothing.
use Prim.Native.Nat.{ℕ, ◌+◌, ◌*◌, ◌≤◌}
use mathlib.Core.Path.{◌≡◌, refl, sym, ap, subst}
use mathlib.Core.List.{List, [], map}
use native.Mathlib.Omega.{arith}
use lib.ListN.{length}
use Rattle.text.specs.Text.{Bytes}
use Rattle.algebra.specs.Tally.{bounds}
use Rattle.algebra.specs.Tree.{Pattern}
use Rattle.algebra.specs.Layout.{put}
use Rattle.algebra.specs.Reader.{reads}
use Rattle.algebra.specs.Given.{read_given_query}
use Rattle.algebra.proofs.Given.{query-given}
use Rattle.algebra.specs.Bounded.{layout_query}
use Rattle.answers.specs.Outcome.{written}
use Rattle.scoping.specs.Label.{prefix_l, prefix_r}
use Rattle.scoping.specs.Premises.{inside}
use Rattle.scoping.specs.Sets.{all}
use Rattle.merging.specs.Sides.{Pair, lefts, rights, renamed_pattern}
use Rattle.merging.specs.Request.{Projection, tree, as_project, read_joins, Request, left_side, right_side, all_inside}
use Rattle.merging.specs.Merge.{mergeable, over}
use Rattle.merging.specs.Without.{minus_sides, plain_request, is_joined, without_trees, without_queries_outcome}
use Rattle.merging.specs.bridge.Twice.{none_twice}
use Rattle.merging.proofs.Given.{project-of, sides-named}
use Rattle.merging.proofs.Lines.{columns-free}
use Rattle.merging.proofs.Lists.{map-length, joins-few, no-constants}
use Rattle.merging.proofs.TreeRead.{TreeRead}
use Rattle.room.specs.Room.{without_room}
use Rattle.room.proofs.Enough.{Enough, then-enough, some-enough, test-enough}
use Rattle.walking.proofs.Sizes.{width, size, query-size}
use Rattle.room.proofs.Added.{put_same}
use Rattle.room.proofs.Side.{side-size}
use Rattle.room.proofs.Merge.{query-tree}

module _ (l r : Projection) (js : List Pair) (pairs : Bytes) (a : TreeRead l) (b : TreeRead r) (listed : read_joins pairs ≡ reads js) where
  abbrev m : Request
  m = plain_request l r js

  pairs-few : (f : Pair → ℕ) → length (map f js) ≤ bounds.entries
  pairs-few f = omega (arith, map-length f js, joins-few pairs js listed)

  remaining-size : size (put (minus_sides (left_side m) (right_side m)) []) ≤ 3 * (size (put (tree l) []) + size (put (tree r) []))
  unfolding minus_sides put size width inside all
  remaining-size =
      let x = side-size prefix_l l (lefts js) [] [] a.valid a.names (pairs-few (λ j. j.left)) no-constants refl in
      let y = side-size prefix_r r (rights js) [] [] b.valid b.names (pairs-few (λ j. j.right)) no-constants refl in
      omega (arith, x, y, ap width (columns-free (left_side m) refl), put_same (renamed_pattern (left_side m)) (put (renamed_pattern (right_side m)) []) [])

pub without-enough : (left right pairs : Bytes) → Enough (without_room (length left) (length right)) (without_queries_outcome left right pairs)
unfolding without_queries_outcome without_trees without_room Enough
without-enough left right pairs =
    let room = without_room (length left) (length right) in
    then-enough room (read_given_query left) _ λ a e. then-enough room (read_given_query right) _ λ b h. then-enough room (read_joins pairs) _ λ js j.
    test-enough room 5 (mergeable a b) _ (λ z. omega arith) λ t.
    some-enough room 4 (as_project a.tree) _ (λ z. omega arith) λ l x. some-enough room 4 (as_project b.tree) _ (λ z. omega arith) λ r y.
    test-enough room 11 (is_joined js) _ (λ z. omega arith) λ s. test-enough room 3 (all_inside (plain_request l r js)) _ (λ z. omega arith) λ i.
    subst (Enough room) (sym (sides-named (plain_request l r js) (λ s t. written (layout_query (over a (minus_sides s t)))))) (test-enough room 10 (none_twice js) _ (λ z. omega arith) λ o.
    let p = project-of a.tree l x in
    let q = project-of b.tree r y in
    omega (
      arith,
      remaining-size l r js pairs (query-tree left a l e p) (query-tree right b r h q) j,
      query-size (over a (minus_sides (left_side (plain_request l r js)) (right_side (plain_request l r js)))),
      query-size a,
      query-size b,
      ap (λ (t : Pattern). size (put t [])) p,
      ap (λ (t : Pattern). size (put t [])) q,
      (query-given left a e).size,
      (query-given right b h).size,
    ))
