-- What is known of the two sides of a merge where nothing was refused. Assumes nothing.
use mathlib.Core.Path.{◌≡◌, refl}
use mathlib.Core.Bool.{true, ◌&&◌}
use mathlib.Core.List.{List, map}
use Prim.Native.Nat.{◌≤◌}
use native.Mathlib.Omega.{arith}
use lib.ListN.{length}
use Rattle.text.specs.Text.{Bytes}
use Rattle.text.specs.Field.{clean}
use Rattle.text.proofs.Basics.{and_left, and_right}
use Rattle.algebra.specs.Tally.{bounds}
use Rattle.scoping.specs.Label.{prefix_l, prefix_r}
use Rattle.scoping.specs.Premises.{inside, different_positions}
use Rattle.merging.specs.Sides.{Pair, lefts, rights}
use Rattle.merging.specs.Request.{Request, all_inside, positions}
use Rattle.merging.specs.Asked.{Lists}
use Rattle.merging.specs.bridge.Twice.{none_twice}
use Rattle.merging.proofs.TreeRead.{TreeRead}
use Rattle.merging.proofs.Lists.{map-length, joins-few, constants-good}
use Rattle.merging.proofs.Names.{Letter}
use Rattle.merging.proofs.Written.{Known}

letter-l : Letter prefix_l
unfolding clean
letter-l = refl

letter-r : Letter prefix_r
unfolding clean
letter-r = refl

module _ (m : Request) (pairs leftConstants rightConstants : Bytes) (a : TreeRead m.left) (b : TreeRead m.right) (ls : Lists pairs leftConstants rightConstants m) (i : all_inside m ≡ true) (o : none_twice m.joins ≡ true) where
  pairs-few : {B : Type 0} (f : Pair → B) → length (map f m.joins) ≤ bounds.entries
  pairs-few f = let e = map-length f m.joins in let h = joins-few pairs m.joins ls.joins in omega arith

  four : (inside m.left.columns (lefts m.joins) ≡ true) × (inside m.right.columns (rights m.joins) ≡ true) × (inside m.left.columns (positions m.left_constants) ≡ true) × (inside m.right.columns (positions m.right_constants) ≡ true)
  unfolding all_inside
  four =
      let js = and_left (inside m.left.columns (lefts m.joins) && inside m.right.columns (rights m.joins)) (inside m.left.columns (positions m.left_constants) && inside m.right.columns (positions m.right_constants)) i in
      let ks = and_right (inside m.left.columns (lefts m.joins) && inside m.right.columns (rights m.joins)) (inside m.left.columns (positions m.left_constants) && inside m.right.columns (positions m.right_constants)) i in (
        and_left (inside m.left.columns (lefts m.joins)) (inside m.right.columns (rights m.joins)) js,
        and_right (inside m.left.columns (lefts m.joins)) (inside m.right.columns (rights m.joins)) js,
        and_left (inside m.left.columns (positions m.left_constants)) (inside m.right.columns (positions m.right_constants)) ks,
        and_right (inside m.left.columns (positions m.left_constants)) (inside m.right.columns (positions m.right_constants)) ks,
      )

  each : (different_positions (lefts m.joins) ≡ true) × (different_positions (rights m.joins) ≡ true)
  unfolding none_twice
  each = (and_left (different_positions (lefts m.joins)) (different_positions (rights m.joins)) o, and_right (different_positions (lefts m.joins)) (different_positions (rights m.joins)) o)

  pub left-known : Known prefix_l m.left (lefts m.joins) m.left_constants
  left-known = record {
    letter = letter-l;
    valid = a.valid;
    names = a.names;
    pairs = pairs-few (λ j. j.left);
    joins-inside = four.0;
    joins-once = each.0;
    constants-inside = four.2;
    constants-good = constants-good leftConstants m.left_constants ls.left_constants;
  }

  pub right-known : Known prefix_r m.right (rights m.joins) m.right_constants
  right-known = record {
    letter = letter-r;
    valid = b.valid;
    names = b.names;
    pairs = pairs-few (λ j. j.right);
    joins-inside = four.1;
    joins-once = each.1;
    constants-inside = four.3;
    constants-good = constants-good rightConstants m.right_constants ls.right_constants;
  }
