-- The calls merge patterns and merge queries: nemo's merge_project_patterns and merge_queries (queries.rs). Assumes nothing.
use Rattle.std.specs.Prelude.{Bool, ◌&&◌, ◌||◌, List}
use Rattle.text.specs.Text.{Bytes, same}
use Rattle.text.specs.Word.{bytes}
use Rattle.algebra.specs.Tree.{Pattern}
use Rattle.algebra.specs.Query.{Query}
use Rattle.algebra.specs.Given.{read_given_tree, read_given_query}
use Rattle.algebra.specs.Layout.{layout}
use Rattle.algebra.specs.Bounded.{layout_query}
use Rattle.answers.specs.Outcome.{Outcome, written, then, or_refused, refused_unless}
use Rattle.scoping.specs.Label.{prefix_l, prefix_r}
use Rattle.scoping.specs.Premises.{name_side}
use Rattle.merging.specs.Sides.{Pair, Constant, Side, lefts, rights, side_with, merged}
use Rattle.merging.specs.Request.{as_project, read_joins, read_constants, Request, request, left_side, right_side, all_inside}

-- merge_project_patterns, for two projects whose naming isn't refused
unfoldable pub merge_project_patterns : Request → Pattern
unfolding merged
merge_project_patterns m = merged (left_side m) (right_side m) m.joins

-- 10 if the naming step refuses a side, else what comes of the two sides under their new names
abbrev pub named_sides : Request → (Side → Side → Outcome) → Outcome
named_sides m k =
    or_refused 10 (name_side prefix_l m.left.columns m.left.inner (lefts m.joins)) λ f.
    or_refused 10 (name_side prefix_r m.right.columns m.right.inner (rights m.joins)) λ g.
    k (side_with m.left.columns m.left.inner m.left_constants f) (side_with m.right.columns m.right.inner m.right_constants g)

-- what comes of the tree that the two sides are merged into
unfoldable pub merge_sides : Request → (Pattern → Outcome) → Outcome
unfolding name_side merged
merge_sides m k = named_sides m λ l r. k (merged l r m.joins)

-- the three lists, checked in this order
abbrev pub lists : Bytes → Bytes → Bytes → (List Pair → List Constant → List Constant → Outcome) → Outcome
lists pairs leftConstants rightConstants k =
    then (read_joins pairs) λ js.
    then (read_constants leftConstants) λ ks.
    then (read_constants rightConstants) λ ls.
    k js ks ls

-- 4 unless both roots are project, 3 if a position is outside its projection, 10 if one is twice on its side, else what the merged tree gives
unfoldable pub merge_trees : Pattern → Pattern → List Pair → List Constant → List Constant → (Pattern → Outcome) → Outcome
unfolding as_project all_inside merge_sides
merge_trees left right js ks ls k =
    or_refused 4 (as_project left) λ l.
    or_refused 4 (as_project right) λ r.
    refused_unless 3 (all_inside (request l r js ks ls)) (merge_sides (request l r js ks ls) k)

-- docs/SPECIFICATION.md, "Operation by operation", merge patterns: the five texts, 4, 3, 10, the merged tree
unfoldable pub merge_patterns_outcome : Bytes → Bytes → Bytes → Bytes → Bytes → Outcome
unfolding read_given_tree read_joins read_constants merge_trees layout
merge_patterns_outcome left right pairs leftConstants rightConstants =
    then (read_given_tree left) λ p.
    then (read_given_tree right) λ q.
    lists pairs leftConstants rightConstants λ js ks ls.
    merge_trees p q js ks ls λ t. written (layout t)

-- ---- queries

-- select or ask: the kinds that are merged, pushed to and negated
unfoldable pub is_select_or_ask : Bytes → Bool
unfolding same
is_select_or_ask kind = same kind (bytes "select") || same kind (bytes "ask")

-- else 5: kind, dataset and base are compared by their bytes
unfoldable pub mergeable : Query → Query → Bool
unfolding is_select_or_ask
mergeable a b = is_select_or_ask a.kind && (same a.kind b.kind && (same a.dataset b.dataset && same a.base b.base))

-- a query's head over another tree
abbrev pub over : Query → Pattern → Query
over q t = record { kind = q.kind; dataset = q.dataset; base = q.base; tree = t }

-- docs/SPECIFICATION.md, "Operation by operation", merge queries: the five texts, 5, 4, 3, 10, the head and the merged tree
unfoldable pub merge_queries_outcome : Bytes → Bytes → Bytes → Bytes → Bytes → Outcome
unfolding read_given_query read_joins read_constants mergeable merge_trees layout_query
merge_queries_outcome left right pairs leftConstants rightConstants =
    then (read_given_query left) λ a.
    then (read_given_query right) λ b.
    lists pairs leftConstants rightConstants λ js ks ls.
    refused_unless 5 (mergeable a b)
    (merge_trees a.tree b.tree js ks ls λ t. written (layout_query (over a t)))
