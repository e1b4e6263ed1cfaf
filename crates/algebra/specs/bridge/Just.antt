-- What proofs say of one and of several. Assumes nothing.
use Rattle.std.specs.Prelude.{◌≡◌, List, [], ◌∷◌, true}
use Rattle.text.specs.Text.{Bytes}
use Rattle.text.specs.Field.{is_var}

-- there is exactly one
pub record Just {A : Type 0} (P : A → Type 0) : Type 0 where
  pub it : A
  pub holds : P it
  pub only : (a : A) → P a → a ≡ it

-- each is a variable
unfoldable pub Variables : List Bytes → Type 0
unfolding is_var
Variables [] = Unit {0}
Variables (x ∷ xs) = (is_var x ≡ true) × Variables xs
