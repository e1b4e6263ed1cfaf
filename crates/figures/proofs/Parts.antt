-- Lines and depth of what is merged, pushed and left over, from those of the trees that were read. Assumes nothing.
use Prim.Native.Nat.{ℕ, suc, ◌+◌, ◌≤◌, max}
use mathlib.Core.Path.{◌≡◌, refl, ◌∙◌, ap}
use mathlib.Core.List.{List, [], ◌∷◌}
use native.Mathlib.Omega.{arith}
use lib.ListN.{length}
use Rattle.text.specs.Text.{Bytes, Line}
use Rattle.algebra.specs.Tree.{Pattern, bgp, path, join, union, minus, leftjoin, filter, graph, extend, values, orderby, project, distinct, reduced, slice, group, service}
use Rattle.algebra.specs.Layout.{put, put_rows}
use Rattle.algebra.specs.Tally.{Tally, start, noted, headed}
use Rattle.algebra.specs.Depth.{depth}
use Rattle.algebra.proofs.Walk.{Keeps, walk}
use Rattle.algebra.proofs.Lines.{lines_are}
use Rattle.scoping.specs.Rename.{rename_in_graph_pattern}
use Rattle.merging.specs.Sides.{Pair, Constant, Side, constant_columns, constant_terms, bind_constants, renamed_columns, renamed_pattern, merged}
use Rattle.merging.specs.Request.{Projection, tree, Request, left_side, right_side}
use Rattle.merging.specs.Merge.{merge_project_patterns}
use Rattle.merging.specs.Push.{only_side, push_constants_in_project_pattern}
use Rattle.merging.specs.Without.{minus_sides, plain_request}
use Rattle.figures.specs.bridge.Parts.{line_count, bound_lines, bound_levels}
use Rattle.figures.proofs.Renamed.{renamed-long, renamed-depth}

-- ---- a tree stands before whatever lines

abbrev Lines : ℕ → List Line → Tally → Type 0
Lines n s m = length s + m.lines ≡ n

lines_keep : (n : ℕ) → Keeps (Lines n)
unfolding noted headed
lines_keep n = record { noted = λ l s fs m h i. omega (arith, i); headed = λ w cs s m i. omega (arith, i) }

pub put-before : (p : Pattern) (t : List Line) → length (put p t) ≡ line_count p + length t
unfolding line_count
put-before p t = let a = walk (Lines (length (put p t) + 0)) (lines_keep _) p t start refl in omega (arith, a, lines_are p)

pub root-deep : (p : Pattern) → 1 ≤ depth p
unfolding depth
root-deep (bgp ts) = omega arith
root-deep (path s t o) = omega arith
root-deep (join p q) = omega arith
root-deep (leftjoin p q c) = omega arith
root-deep (filter p e) = omega arith
root-deep (union p q) = omega arith
root-deep (graph n p) = omega arith
root-deep (extend v p e) = omega arith
root-deep (minus p q) = omega arith
root-deep (values cs rs) = omega arith
root-deep (orderby p os) = omega arith
root-deep (project cs p) = omega arith
root-deep (distinct p) = omega arith
root-deep (reduced p) = omega arith
root-deep (slice s l p) = omega arith
root-deep (group ks p rs) = omega arith
root-deep (service n s p) = omega arith

-- ---- one side

bound-lines : (p : Pattern) (cs : List Bytes) (ks : List Constant) (t : List Line) → length (put (bind_constants p cs ks) t) ≡ line_count p + bound_lines ks + length t
unfolding bind_constants put put_rows
bound-lines p cs [] t = omega (arith, put-before p t)
bound-lines p cs (k ∷ ks) t = omega (arith, put-before p (put (values (constant_columns cs (k ∷ ks)) (constant_terms (k ∷ ks) ∷ [])) t))

bound-depth : (p : Pattern) (cs : List Bytes) (ks : List Constant) → depth (bind_constants p cs ks) ≡ depth p + bound_levels ks
unfolding bind_constants depth
bound-depth p cs [] = omega arith
bound-depth p cs (k ∷ ks) = omega (arith, root-deep p)

pub side-lines : (s : Side) (t : List Line) → length (put (renamed_pattern s) t) ≡ line_count s.inner + bound_lines s.constants + length t
unfolding renamed_pattern line_count
side-lines s t = omega (arith, bound-lines (rename_in_graph_pattern s.name s.inner) (renamed_columns s) s.constants t, renamed-long s.name s.inner [] [] refl)

pub side-depth : (s : Side) → depth (renamed_pattern s) ≡ depth s.inner + bound_levels s.constants
unfolding renamed_pattern
side-depth s = bound-depth (rename_in_graph_pattern s.name s.inner) (renamed_columns s) s.constants ∙ ap (λ (n : ℕ). n + bound_levels s.constants) (renamed-depth s.name s.inner)

root-lines : (x : Projection) → line_count (tree x) ≡ suc (line_count x.inner)
unfolding line_count put
root-lines x = refl

-- ---- both sides, under a project and a join or minus

module _ (m : Request) where
  pub merged-lines : line_count (merge_project_patterns m) ≡ (line_count (tree m.left) + bound_lines m.left_constants) + (line_count (tree m.right) + bound_lines m.right_constants)
  unfolding merge_project_patterns merged line_count put
  merged-lines = omega (arith, side-lines (left_side m) (put (renamed_pattern (right_side m)) []), side-lines (right_side m) [])

  pub merged-depth : depth (merge_project_patterns m) ≡ suc (max (depth (tree m.left) + bound_levels m.left_constants) (depth (tree m.right) + bound_levels m.right_constants))
  unfolding merge_project_patterns merged depth
  merged-depth = omega (arith, side-depth (left_side m), side-depth (right_side m))

module _ (l r : Projection) (js : List Pair) where
  abbrev m : Request
  m = plain_request l r js

  pub without-lines : line_count (minus_sides (left_side m) (right_side m)) ≡ line_count (tree l) + line_count (tree r)
  unfolding minus_sides line_count put
  without-lines = omega (arith, side-lines (left_side m) (put (renamed_pattern (right_side m)) []), side-lines (right_side m) [])

  pub without-depth : depth (minus_sides (left_side m) (right_side m)) ≡ suc (max (depth (tree l)) (depth (tree r)))
  unfolding minus_sides depth
  without-depth = omega (arith, side-depth (left_side m), side-depth (right_side m))

-- ---- one side under a project

pub pushed-lines : (x : Projection) (ks : List Constant) → line_count (push_constants_in_project_pattern x ks) ≡ line_count (tree x) + bound_lines ks
unfolding push_constants_in_project_pattern line_count put
pushed-lines x ks = omega (arith, side-lines (only_side x ks) [])

pub pushed-depth : (x : Projection) (ks : List Constant) → depth (push_constants_in_project_pattern x ks) ≡ depth (tree x) + bound_levels ks
unfolding push_constants_in_project_pattern depth
pushed-depth x ks = omega (arith, side-depth (only_side x ks))
