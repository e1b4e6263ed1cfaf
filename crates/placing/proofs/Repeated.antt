-- Steps of both calls: two tests in turn, and a line that is repeated. Assumes nothing.
use Prim.Native.Nat.{ℕ, zero, suc, ◌+◌, ◌-◌, ◌≤◌, ◌<◌}
use mathlib.Core.Path.{◌≡◌, refl, sym, ap, ◌∙◌}
use mathlib.Core.Bool.{Bool, true, false, not, ◌&&◌}
use mathlib.Core.List.{List, [], ◌∷◌, ◌++◌, append_assoc}
use native.Mathlib.Omega.{arith}
use borrow.Author.Tests.{not-true, not-false}
use Rattle.text.specs.Text.{Bytes, Line, ended, text_of}
use Rattle.filtering.specs.bridge.SetLines.{repeated}

pub both_true : (a b : Bool) → not a ≡ false → b ≡ (a && b)
both_true a b h = rw (not-false a h)

pub both_false : (a b : Bool) → not a ≡ true → false ≡ (a && b)
both_false a b h = rw (not-true a h)

pub with-true : (b : Bool) → (b && true) ≡ b
with-true true = refl
with-true false = refl

-- one test more, in front of those that are left
pub and-next : (a b t c x : Bool) → b ≡ (a && t) → (a && (t && c)) ≡ x → (b && c) ≡ x
and-next true b t c x e h = ap (λ (y : Bool). y && c) e ∙ h
and-next false b t c x e h = ap (λ (y : Bool). y && c) e ∙ h

module _ (w : Bytes) where
  pub repeated-all : (n : ℕ) → text_of (repeated n w []) ≡ text_of (repeated (n - 0) w [])
  repeated-all n = let z : n ≡ n - 0 = omega arith in ap (λ (k : ℕ). text_of (repeated k w [])) z

  pub repeated-next : (n i : ℕ) → i < n → text_of (repeated (n - i) w []) ≡ (w ++ (10 ∷ [])) ++ text_of (repeated (n - (i + 1)) w [])
  unfolding repeated text_of ended
  repeated-next n i h =
      let z : n - i ≡ suc (n - (i + 1)) = omega arith in
      ap (λ (k : ℕ). text_of (repeated k w [])) z ∙ sym (append_assoc w (10 ∷ []) (text_of (repeated (n - (i + 1)) w [])))

  pub repeated-done : (n i : ℕ) → n ≤ i → text_of (repeated (n - i) w []) ≡ []
  unfolding repeated text_of
  repeated-done n i h = let z : n - i ≡ 0 = omega arith in ap (λ (k : ℕ). text_of (repeated k w [])) z

-- in front of other lines
pub repeated-append : (n : ℕ) (w : Bytes) (t : List Line) → repeated n w t ≡ repeated n w [] ++ t
unfolding repeated
repeated-append zero w t = refl
repeated-append (suc n) w t = ap (λ (l : List Line). (w ∷ []) ∷ l) (repeated-append n w t)
