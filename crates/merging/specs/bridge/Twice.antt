-- The naming steps of both sides refuse by one test. Assumes nothing.
use Rattle.std.specs.Prelude.{Bool, ◌&&◌, List}
use Rattle.scoping.specs.Premises.{different_positions}
use Rattle.merging.specs.Sides.{Pair, lefts, rights}

-- no position twice on its side
unfoldable pub none_twice : List Pair → Bool
unfolding different_positions
none_twice js = different_positions (lefts js) && different_positions (rights js)
