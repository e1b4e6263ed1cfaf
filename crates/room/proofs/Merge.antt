-- What merge patterns and merge queries need: three times both trees or queries, and the constants. Assumes nothing.
use Prim.Native.Nat.{ℕ, ◌+◌, ◌*◌, ◌≤◌}
use mathlib.Core.Path.{◌≡◌, sym, ap, subst, ◌∙◌}
use mathlib.Core.Bool.{Bool, true, not, ◌&&◌}
use mathlib.Core.List.{List, [], map}
use native.Mathlib.Omega.{arith}
use lib.ListN.{length}
use Rattle.text.specs.Text.{Bytes}
use Rattle.text.proofs.Basics.{and_left, and_right}
use Rattle.algebra.specs.Tree.{Pattern}
use Rattle.algebra.specs.Query.{Query}
use Rattle.algebra.specs.Layout.{put, layout}
use Rattle.algebra.specs.Reader.{reads}
use Rattle.algebra.specs.Bounded.{layout_query}
use Rattle.algebra.specs.Given.{read_given_tree, read_given_query}
use Rattle.algebra.specs.Valid.{Valid, mem}
use Rattle.algebra.specs.Tally.{bounds}
use Rattle.algebra.proofs.Given.{tree-given, query-given}
use Rattle.answers.specs.Outcome.{Outcome, written}
use Rattle.scoping.specs.Label.{prefix_l, prefix_r}
use Rattle.scoping.specs.Numbering.{by_place}
use Rattle.scoping.specs.Premises.{inside}
use Rattle.scoping.specs.Sets.{keep}
use Rattle.merging.specs.Sides.{Pair, Constant, lefts, rights, renamed_pattern, free_columns, left_join_variables, merged_columns, merged}
use Rattle.merging.specs.Request.{Projection, tree, as_project, read_joins, read_constants, Request, request, left_side, right_side, positions, all_inside}
use Rattle.merging.specs.Merge.{merge_project_patterns, lists, merge_trees, merge_patterns_outcome, mergeable, over, merge_queries_outcome}
use Rattle.merging.specs.Asked.{Lists}
use Rattle.merging.specs.bridge.Twice.{none_twice}
use Rattle.merging.proofs.Given.{project-of, sides-merged}
use Rattle.merging.proofs.Lists.{map-length, joins-few}
use Rattle.merging.proofs.Others.{given-valid, given-names}
use Rattle.merging.proofs.TreeRead.{TreeRead, tree-read}
use Rattle.room.specs.Room.{merge_room}
use Rattle.room.proofs.Enough.{Enough, then-enough, some-enough, test-enough}
use Rattle.walking.proofs.Sizes.{width, width-append, size, tree-size, query-size}
use Rattle.room.proofs.Added.{put_same}
use Rattle.room.proofs.Names.{keep-width}
use Rattle.room.proofs.Side.{side-size}

-- ---- the merged tree

module _ (m : Request) (pairs leftConstants rightConstants : Bytes) (a : TreeRead m.left) (b : TreeRead m.right) (ls : Lists pairs leftConstants rightConstants m) (i : all_inside m ≡ true) where
  pairs-few : (f : Pair → ℕ) → length (map f m.joins) ≤ bounds.entries
  pairs-few f = omega (arith, map-length f m.joins, joins-few pairs m.joins ls.joins)

  constants-inside : (inside m.left.columns (positions m.left_constants) && inside m.right.columns (positions m.right_constants)) ≡ true
  unfolding all_inside
  constants-inside = and_right (inside m.left.columns (lefts m.joins) && inside m.right.columns (rights m.joins)) _ i

  pub merged-size : size (put (merge_project_patterns m) []) ≤ 3 * (size (put (tree m.left) []) + size (put (tree m.right) [])) + length leftConstants + length rightConstants
  unfolding merge_project_patterns merged merged_columns put size width
  merged-size =
      let l = side-size prefix_l m.left (lefts m.joins) m.left_constants leftConstants a.valid a.names (pairs-few (λ j. j.left)) ls.left_constants (and_left (inside m.left.columns (positions m.left_constants)) (inside m.right.columns (positions m.right_constants)) constants-inside) in
      let r = side-size prefix_r m.right (rights m.joins) m.right_constants rightConstants b.valid b.names (pairs-few (λ j. j.right)) ls.right_constants (and_right (inside m.left.columns (positions m.left_constants)) (inside m.right.columns (positions m.right_constants)) constants-inside) in
      let test : Bytes → Bool = λ c. not (mem c (map (left_side m).name (left_join_variables (left_side m) m.joins))) in
      omega (arith, width-append (free_columns (left_side m)) (keep test (free_columns (right_side m))), keep-width test (free_columns (right_side m)), put_same (renamed_pattern (left_side m)) (put (renamed_pattern (right_side m)) []) [])

-- ---- outcomes

module _ (room : ℕ) where
  lists-enough : (pairs leftConstants rightConstants : Bytes) (k : List Pair → List Constant → List Constant → Outcome)
      → ((js : List Pair) (ks ls : List Constant) → ((l r : Projection) → Lists pairs leftConstants rightConstants (request l r js ks ls)) → Enough room (k js ks ls))
      → Enough room (lists pairs leftConstants rightConstants k)
  lists-enough pairs leftConstants rightConstants k f =
      then-enough room (read_joins pairs) _ λ js e. then-enough room (read_constants leftConstants) _ λ ks h. then-enough room (read_constants rightConstants) _ λ ls i.
      f js ks ls (λ l r. record { joins = e; left_constants = h; right_constants = i })

  merge-trees-enough : (p q : Pattern) (js : List Pair) (ks ls : List Constant) (k : Pattern → Outcome)
      → ((l r : Projection) → p ≡ tree l → q ≡ tree r → all_inside (request l r js ks ls) ≡ true → Enough room (k (merge_project_patterns (request l r js ks ls))))
      → Enough room (merge_trees p q js ks ls k)
  unfolding merge_trees
  merge-trees-enough p q js ks ls k f =
      some-enough room 4 (as_project p) _ (λ z. omega arith) λ l e. some-enough room 4 (as_project q) _ (λ z. omega arith) λ r h.
      test-enough room 3 (all_inside (request l r js ks ls)) _ (λ z. omega arith) λ i.
      subst (Enough room) (sym (sides-merged (request l r js ks ls) k)) (test-enough room 10 (none_twice js) _ (λ z. omega arith) λ o. f l r (project-of p l e) (project-of q r h) i)

pub merge-patterns-enough : (left right pairs leftConstants rightConstants : Bytes) → Enough (merge_room (length left) (length right) (length leftConstants) (length rightConstants)) (merge_patterns_outcome left right pairs leftConstants rightConstants)
unfolding merge_patterns_outcome merge_room Enough
merge-patterns-enough left right pairs leftConstants rightConstants =
    let room = merge_room (length left) (length right) (length leftConstants) (length rightConstants) in
    then-enough room (read_given_tree left) _ λ p e. then-enough room (read_given_tree right) _ λ q h.
    lists-enough room pairs leftConstants rightConstants _ λ js ks ls says. merge-trees-enough room p q js ks ls (λ t. written (layout t)) λ l r x y i.
    let lt : read_given_tree left ≡ reads (tree l) = e ∙ ap reads x in
    let rt : read_given_tree right ≡ reads (tree r) = h ∙ ap reads y in
    let m = request l r js ks ls in
    omega (
      arith,
      merged-size m pairs leftConstants rightConstants (tree-read left l lt) (tree-read right r rt) (says l r) i,
      tree-size (merge_project_patterns m),
      tree-size (tree l),
      tree-size (tree r),
      (tree-given left (tree l) lt).size,
      (tree-given right (tree r) rt).size,
    )

-- ---- queries

pub query-tree : (s : Bytes) (q : Query) (x : Projection) → read_given_query s ≡ reads q → q.tree ≡ tree x → TreeRead x
query-tree s q x e t = record { valid = subst Valid t (given-valid s q e); names = subst (λ (p : Pattern). length (by_place p) ≤ 1024) t (given-names s q e) }

pub merge-queries-enough : (left right pairs leftConstants rightConstants : Bytes) → Enough (merge_room (length left) (length right) (length leftConstants) (length rightConstants)) (merge_queries_outcome left right pairs leftConstants rightConstants)
unfolding merge_queries_outcome merge_room Enough
merge-queries-enough left right pairs leftConstants rightConstants =
    let room = merge_room (length left) (length right) (length leftConstants) (length rightConstants) in
    then-enough room (read_given_query left) _ λ a e. then-enough room (read_given_query right) _ λ b h.
    lists-enough room pairs leftConstants rightConstants _ λ js ks ls says. test-enough room 5 (mergeable a b) _ (λ z. omega arith) λ t.
    merge-trees-enough room a.tree b.tree js ks ls (λ p. written (layout_query (over a p))) λ l r x y i.
    let m = request l r js ks ls in
    let merged = merged-size m pairs leftConstants rightConstants (query-tree left a l e x) (query-tree right b r h y) (says l r) i in
    omega (
      arith,
      merged,
      query-size (over a (merge_project_patterns m)),
      query-size a,
      query-size b,
      ap (λ (p : Pattern). size (put p [])) x,
      ap (λ (p : Pattern). size (put p [])) y,
      (query-given left a e).size,
      (query-given right b h).size,
    )
