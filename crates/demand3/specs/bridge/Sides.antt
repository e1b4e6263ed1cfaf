-- What proofs say of one side of a merge. Assumes nothing.
use Rattle.std.specs.Prelude.{List, map}
use Rattle.text.specs.Text.{Bytes}
use Rattle.algebra.specs.Tree.{Pattern, project}
use Rattle.merging.specs.Sides.{Side, Pair, column_at}

-- a side's tree
abbrev pub whole : Side → Pattern
whole s = project s.columns s.inner

-- right_join_variables
abbrev pub right_join_variables : Side → List Pair → List Bytes
right_join_variables r js = map (λ j. column_at r.columns j.right) js
