-- The tests of a request's positions, taken apart: each list inside its projection, no position twice on a side. Assumes nothing.
use mathlib.Core.Path.{◌≡◌}
use mathlib.Core.Bool.{true, ◌&&◌}
use mathlib.Core.List.{List}
use Rattle.text.proofs.Basics.{and_left, and_right}
use Rattle.scoping.specs.Premises.{inside, different_positions}
use Rattle.merging.specs.Sides.{Pair, lefts, rights}
use Rattle.merging.specs.Request.{Request, all_inside, positions}
use Rattle.merging.specs.bridge.Twice.{none_twice}

-- all positions inside, one by one
pub record Inside (m : Request) : Type 0 where
  pub left_joins : inside m.left.columns (lefts m.joins) ≡ true
  pub right_joins : inside m.right.columns (rights m.joins) ≡ true
  pub left_constants : inside m.left.columns (positions m.left_constants) ≡ true
  pub right_constants : inside m.right.columns (positions m.right_constants) ≡ true

pub inside_of : (m : Request) → all_inside m ≡ true → Inside m
unfolding all_inside
inside_of m h =
    let a = inside m.left.columns (lefts m.joins) in
    let b = inside m.right.columns (rights m.joins) in
    let c = inside m.left.columns (positions m.left_constants) in
    let d = inside m.right.columns (positions m.right_constants) in
    let js = and_left (a && b) (c && d) h in
    let ks = and_right (a && b) (c && d) h in
    record { left_joins = and_left a b js; right_joins = and_right a b js; left_constants = and_left c d ks; right_constants = and_right c d ks }

-- no position twice, side by side
pub once-of : (js : List Pair) → none_twice js ≡ true → (different_positions (lefts js) ≡ true) × (different_positions (rights js) ≡ true)
unfolding none_twice
once-of js o = (and_left (different_positions (lefts js)) (different_positions (rights js)) o, and_right (different_positions (lefts js)) (different_positions (rights js)) o)
