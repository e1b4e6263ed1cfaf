-- The call without: the left rows that no right row matches, as a minus of the two renamed sides. nemo has no such call. Assumes nothing.
use Rattle.std.specs.Prelude.{Bool, true, false, List, [], ◌∷◌}
use Rattle.text.specs.Text.{Bytes}
use Rattle.algebra.specs.Tree.{Pattern, minus, project}
use Rattle.algebra.specs.Given.{read_given_query}
use Rattle.algebra.specs.Bounded.{layout_query}
use Rattle.answers.specs.Outcome.{Outcome, written, then, or_refused, refused_unless}
use Rattle.scoping.specs.Premises.{name_side}
use Rattle.merging.specs.Sides.{Pair, Side, renamed_columns, renamed_pattern}
use Rattle.merging.specs.Request.{Projection, as_project, read_joins, Request, request, all_inside}
use Rattle.merging.specs.Merge.{named_sides, mergeable, over}

-- ---- the tree

-- the left columns over the left pattern minus the right one, all under the names that a merge gives them
unfoldable pub minus_sides : Side → Side → Pattern
unfolding renamed_pattern
minus_sides l r = project (renamed_columns l) (minus (renamed_pattern l) (renamed_pattern r))

-- no constants are bound
abbrev pub plain_request : Projection → Projection → List Pair → Request
plain_request l r js = request l r js [] []

-- ---- the call

-- some pair is listed
unfoldable pub is_joined : List Pair → Bool
is_joined [] = false
is_joined (j ∷ js) = true

-- 4 unless both roots are project, 11 if no pair is listed, 3 if a position is outside its projection, 10 if one is twice on its side, else what the tree gives
unfoldable pub without_trees : Pattern → Pattern → List Pair → (Pattern → Outcome) → Outcome
unfolding as_project all_inside name_side minus_sides is_joined
without_trees left right js k =
    or_refused 4 (as_project left) λ l.
    or_refused 4 (as_project right) λ r.
    refused_unless 11 (is_joined js)
    (refused_unless 3 (all_inside (plain_request l r js)) (named_sides (plain_request l r js) λ s t. k (minus_sides s t)))

-- docs/SPECIFICATION.md, "Operation by operation", without: the three texts, 5, 4, 11, 3, 10, the head and the tree
unfoldable pub without_queries_outcome : Bytes → Bytes → Bytes → Outcome
unfolding read_given_query read_joins mergeable without_trees layout_query
without_queries_outcome left right pairs =
    then (read_given_query left) λ a.
    then (read_given_query right) λ b.
    then (read_joins pairs) λ js.
    refused_unless 5 (mergeable a b)
    (without_trees a.tree b.tree js λ t. written (layout_query (over a t)))
