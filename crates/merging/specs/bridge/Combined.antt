-- Merge and without as one: two sides combined by a join (false) or by a minus (true). Assumes nothing.
use Rattle.std.specs.Prelude.{Bool, true, false, List}
use Rattle.algebra.specs.Tree.{Pattern, minus, project}
use Rattle.answers.specs.Outcome.{Outcome, or_refused, refused_unless}
use Rattle.scoping.specs.Premises.{name_side}
use Rattle.merging.specs.Sides.{Pair, Constant, Side, renamed_pattern, free_columns, merged}
use Rattle.merging.specs.Request.{as_project, Request, request, left_side, right_side, all_inside}
use Rattle.merging.specs.Merge.{named_sides}
use Rattle.merging.specs.Without.{is_joined}

-- the tree of two sides; without takes no constants, so its columns are all free
unfoldable pub combined_sides : Bool → Side → Side → List Pair → Pattern
unfolding merged free_columns renamed_pattern
combined_sides false l r js = merged l r js
combined_sides true l r js = project (free_columns l) (minus (renamed_pattern l) (renamed_pattern r))

unfoldable pub combined : Bool → Request → Pattern
unfolding combined_sides
combined less m = combined_sides less (left_side m) (right_side m) m.joins

-- without asks for a pair
unfoldable pub may_combine : Bool → List Pair → Bool
unfolding is_joined
may_combine false js = true
may_combine true js = is_joined js

-- 4, 11, 3, 10, else what the tree gives
unfoldable pub combine_trees : Bool → Pattern → Pattern → List Pair → List Constant → List Constant → (Pattern → Outcome) → Outcome
unfolding as_project all_inside name_side combined_sides may_combine
combine_trees less left right js ks ls k =
    or_refused 4 (as_project left) λ l.
    or_refused 4 (as_project right) λ r.
    refused_unless 11 (may_combine less js)
    (refused_unless 3 (all_inside (request l r js ks ls)) (named_sides (request l r js ks ls) λ s t. k (combined_sides less s t js)))
