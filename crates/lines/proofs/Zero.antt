-- A choice is a number that is 0 or 1. Assumes nothing.
use Prim.Native.Nat.{ℕ, zero, suc, ◌≤◌, ◌<◌}
use mathlib.Core.Path.{◌≡◌, refl, ◌∙◌, ap}
use mathlib.Core.List.{List, [], ◌∷◌}
use mathlib.Core.Bool.{Bool, true, false}
use mathlib.Core.Option.{none, some}
use native.Mathlib.Omega.{arith}
use Rattle.text.specs.Text.{Bytes, same}
use Rattle.text.specs.Word.{bytes}
use Rattle.text.specs.Field.{digits_of, number_of, digits, decimal}
use Rattle.text.proofs.Basics.{same-eq}
use Rattle.text.proofs.Numbers.{number-sound}
use Rattle.algebra.specs.bridge.Table.{choice}
use Rattle.lines.specs.bridge.Line.{took, take_field}

-- a field with another number is another field
differs : (f w : Bytes) (v : ℕ) → number_of w ≡ some v → (number_of f ≡ some v → ⊥) → same f w ≡ false
differs f w v e n = go (same f w) refl
  where
    go : (b : Bool) → same f w ≡ b → same f w ≡ false
    go true q = absurd (n (ap number_of (same-eq f w q) ∙ e))
    go false q = q

module _ (f : Bytes) (fs : List Bytes) where
  wrong : (number_of f ≡ some 0 → ⊥) → (number_of f ≡ some 1 → ⊥) → take_field choice (f ∷ fs) ≡ none
  unfolding number_of digits_of
  wrong a b = rw (differs f (bytes "0") 0 refl a, differs f (bytes "1") 1 refl b)

  pub choice-none : number_of f ≡ none → take_field choice (f ∷ fs) ≡ none
  choice-none e = wrong (λ h. let z : ◌≡◌ {A = ℕ} 0 1 = cc in omega arith) (λ h. let z : ◌≡◌ {A = ℕ} 0 1 = cc in omega arith)

  pub choice-big : (v : ℕ) → number_of f ≡ some v → 1 < v → take_field choice (f ∷ fs) ≡ none
  choice-big v e k = wrong (λ h. let z : v ≡ 0 = cc in omega arith) (λ h. let z : v ≡ 1 = cc in omega arith)

  pub choice-is : (v : ℕ) → number_of f ≡ some v → v ≤ 1 → take_field choice (f ∷ fs) ≡ some (took fs [] v)
  unfolding decimal digits same
  choice-is zero e k = rw (number-sound f 0 e).0
  choice-is (suc zero) e k = rw (number-sound f 1 e).0
  choice-is (suc (suc v)) e k = absurd (omega arith)
