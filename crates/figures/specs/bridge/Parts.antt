-- The figures from those of the texts that were read, for the code: no tree has to be written. Assumes nothing.
use Rattle.std.specs.Prelude.{ℕ, zero, suc, ◌+◌, max, cond, List, [], ◌∷◌, length}
use Rattle.std.proofs.Math.Option.{Option, none, some}
use Rattle.algebra.specs.Tree.{Pattern, bgp, path, join, union, minus, leftjoin, filter, graph, extend, values, orderby, project, distinct, reduced, slice, group, service}
use Rattle.algebra.specs.Query.{Query}
use Rattle.algebra.specs.Layout.{put}
use Rattle.algebra.specs.Depth.{depth}
use Rattle.merging.specs.Sides.{Constant, free_columns, merged_columns}
use Rattle.merging.specs.Request.{Projection, tree, as_project, Request, left_side, right_side}
use Rattle.merging.specs.Merge.{is_select_or_ask}
use Rattle.merging.specs.Push.{only_side}
use Rattle.figures.specs.Figures.{Figures, column_count}

-- a tree's lines
unfoldable pub line_count : Pattern → ℕ
unfolding put
line_count p = length (put p [])

-- what bound constants add: `join`, `values`, `cols` and `row`, one level
abbrev pub bound_lines : List Constant → ℕ
bound_lines [] = 0
bound_lines (k ∷ ks) = 4

abbrev pub bound_levels : List Constant → ℕ
bound_levels [] = 0
bound_levels (k ∷ ks) = 1

-- a merge's tree: the two `project` lines become one and a `join`
abbrev pub merged_figures : ℕ → Request → Figures
merged_figures n m = record {
  bytes = n;
  lines = (line_count (tree m.left) + bound_lines m.left_constants) + (line_count (tree m.right) + bound_lines m.right_constants);
  depth = suc (max (depth (tree m.left) + bound_levels m.left_constants) (depth (tree m.right) + bound_levels m.right_constants));
  columns = length (merged_columns (left_side m) (right_side m) m.joins);
}

-- without: the two `project` lines become one and a `minus`
abbrev pub without_figures : ℕ → Request → Figures
without_figures n m = record {
  bytes = n;
  lines = line_count (tree m.left) + line_count (tree m.right);
  depth = suc (max (depth (tree m.left)) (depth (tree m.right)));
  columns = length m.left.columns;
}

-- a push into a project
abbrev pub pushed_figures : ℕ → Projection → List Constant → Figures
pushed_figures n x ks = record {
  bytes = n;
  lines = line_count (tree x) + bound_lines ks;
  depth = depth (tree x) + bound_levels ks;
  columns = length (free_columns (only_side x ks));
}

-- a tree as it stands
abbrev pub copied_figures : ℕ → Pattern → Figures
copied_figures n p = record { bytes = n; lines = line_count p; depth = depth p; columns = column_count (as_project p) }

-- ---- negate

-- one level further down, if there is anything
abbrev pub deeper : ℕ → ℕ
deeper zero = 0
deeper (suc n) = suc (suc n)

-- the depth that the outermost projection's part of a tree reaches, seen from the root; 0 where there is no such projection
unfoldable pub reach : Pattern → ℕ
unfolding depth
reach (project cs p) = suc (depth p)
reach (distinct p) = deeper (reach p)
reach (reduced p) = deeper (reach p)
reach (slice s l p) = deeper (reach p)
reach (orderby p os) = deeper (reach p)
reach (group ks p rs) = deeper (reach p)
reach (bgp ts) = 0
reach (path s t o) = 0
reach (join p q) = 0
reach (leftjoin p q c) = 0
reach (filter p e) = 0
reach (union p q) = 0
reach (graph n p) = 0
reach (extend v p e) = 0
reach (minus p q) = 0
reach (values cs rs) = 0
reach (service n s p) = 0

-- `filter`, `bgp 0`, `not` and `exists` are put in, three of them above what stood below the projection
abbrev pub put_in : ℕ → ℕ
put_in zero = 0
put_in (suc n) = 4

abbrev pub lowered : ℕ → ℕ
lowered zero = 0
lowered (suc n) = suc n + 3

abbrev pub negated_figures : ℕ → Pattern → Figures
negated_figures n p = record { bytes = n; lines = line_count p + put_in (reach p); depth = max (depth p) (lowered (reach p)); columns = column_count (as_project p) }

-- a query's: one line more
abbrev pub head_line : Figures → Figures
head_line f = record { bytes = f.bytes; lines = suc f.lines; depth = f.depth; columns = f.columns }

-- ---- queries that are copied unless they are select or ask

abbrev pub root_figures : ℕ → Pattern → List Constant → Option Projection → Figures
root_figures n p ks none = copied_figures n p
root_figures n p ks (some x) = pushed_figures n x ks

unfoldable pub query_pushed_figures : ℕ → Query → List Constant → Figures
unfolding is_select_or_ask as_project
query_pushed_figures n q ks = cond (is_select_or_ask q.kind) (root_figures n q.tree ks (as_project q.tree)) (copied_figures n q.tree)

unfoldable pub query_negated_figures : ℕ → Query → Figures
unfolding is_select_or_ask
query_negated_figures n q = cond (is_select_or_ask q.kind) (negated_figures n q.tree) (copied_figures n q.tree)
