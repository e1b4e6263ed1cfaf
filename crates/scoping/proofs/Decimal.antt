-- Decimal numbers are different where the numbers are, and so are generated names. Assumes nothing.
use mathlib.Core.Path.{◌≡◌, refl, sym, ap, ◌∙◌}
use mathlib.Core.List.{[], ◌∷◌, ◌++◌}
use Prim.Native.Nat.{ℕ, zero, suc, ◌+◌, ◌-◌, ◌*◌, ◌/◌, ◌%◌, ◌≤◌, ◌<◌}
use native.Mathlib.Omega.{arith}
use native.Mathlib.Decide.{dec_lt}
use Rattle.text.specs.Text.{Bytes}
use Rattle.text.specs.Field.{digits, decimal}
use Rattle.text.proofs.Numbers.{digits-small, digits-big}
use Rattle.scoping.specs.Label.{generated}

-- ---- the digits of a number, at most k of them

-- the number that digits write, a at their left
value : ℕ → Bytes → ℕ
value a [] = a
value a (b ∷ bs) = value (a * 10 + (b - 48)) bs

value-last : (a : ℕ) (bs : Bytes) (b : ℕ) → value a (bs ++ (b ∷ [])) ≡ value a bs * 10 + (b - 48)
unfolding value
value-last a [] b = refl
value-last a (x ∷ bs) b = value-last (a * 10 + (x - 48)) bs b

value-digits : (k n : ℕ) → n < k → value 0 (digits k n) ≡ n
unfolding value
value-digits zero n h = absurd (omega arith)
value-digits (suc k) n h = go (value-digits k) (dec_lt n 10)
  where
    go : ((m : ℕ) → m < k → value 0 (digits k m) ≡ m) → Dec (n < 10) → value 0 (digits (suc k) n) ≡ n
    go r (yes l) = ap (value 0) (digits-small k n l) ∙ omega arith
    go r (no l) =
        ap (value 0) (digits-big k n (omega arith)) ∙ value-last 0 (digits k (n / 10)) (n % 10 + 48) ∙ omega (arith, r (n / 10) (omega arith))

pub decimal-apart : (m n : ℕ) → decimal m ≡ decimal n → m ≡ n
unfolding decimal
decimal-apart m n e = sym (value-digits (suc m) m (omega arith)) ∙ ap (value 0) e ∙ value-digits (suc n) n (omega arith)

-- ---- generated names

pub generated-number : (p q m n : ℕ) → generated p m ≡ generated q n → m ≡ n
unfolding generated
generated-number p q m n e = decimal-apart m n (cc)

pub generated-prefix : (p q m n : ℕ) → generated p m ≡ generated q n → p ≡ q
unfolding generated
generated-prefix p q m n e = cc
