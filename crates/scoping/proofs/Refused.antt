-- The naming step of a side refuses exactly the join lists that have a position twice. Assumes nothing.
use mathlib.Core.Path.{◌≡◌, refl, ap}
use mathlib.Core.Bool.{Bool, true, false, cond}
use mathlib.Core.List.{List, [], ◌∷◌}
use mathlib.Core.Option.{Option, none, some}
use Prim.Native.Nat.{ℕ}
use Rattle.text.specs.Text.{Bytes}
use Rattle.algebra.specs.Tree.{Pattern}
use Rattle.scoping.specs.Sets.{any}
use Rattle.scoping.specs.Premises.{different_positions, side_name, name_side}

module _ (prefix : ℕ) (cs : List Bytes) (p : Pattern) where
  -- next to one another, and apart; whatever the columns' names
  pub repeated : (name_side prefix cs p (0 ∷ 0 ∷ []) ≡ none) × (name_side prefix cs p (2 ∷ 0 ∷ 1 ∷ 2 ∷ []) ≡ none)
  unfolding name_side different_positions any
  repeated = (refl, refl)

  pub different : name_side prefix cs p (2 ∷ 0 ∷ 1 ∷ []) ≡ some (side_name prefix cs p (2 ∷ 0 ∷ 1 ∷ []))
  unfolding name_side different_positions any
  different = refl

  module _ (is : List ℕ) where
    names : Bool → Option (Bytes → Bytes)
    names t = cond t (some (side_name prefix cs p is)) none

    pub naming-refused : different_positions is ≡ false → name_side prefix cs p is ≡ none
    unfolding name_side names
    naming-refused e = ap names e

    pub naming-gives : different_positions is ≡ true → name_side prefix cs p is ≡ some (side_name prefix cs p is)
    unfolding name_side names
    naming-gives e = ap names e
