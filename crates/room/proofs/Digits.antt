-- How many digits a number has. Assumes nothing.
use Prim.Native.Nat.{ℕ, zero, suc, ◌+◌, ◌*◌, ◌/◌, ◌%◌, ◌≤◌, ◌<◌}
use mathlib.Core.Path.{ap}
use mathlib.Core.List.{[], ◌∷◌}
use native.Mathlib.Omega.{arith}
use native.Mathlib.Decide.{dec_lt}
use lib.ListN.{length, length-append}
use Rattle.text.specs.Field.{digits, decimal}
use Rattle.text.proofs.Numbers.{digits-small, digits-big}

-- one at least
pub digits-some : (n : ℕ) → 1 ≤ length (decimal n)
unfolding decimal
digits-some n = go (dec_lt n 10)
  where
    go : Dec (n < 10) → 1 ≤ length (digits (suc n) n)
    go (yes h) = omega (arith, ap length (digits-small n n h))
    go (no h) = omega (arith, ap length (digits-big n n (omega arith)), length-append (digits n (n / 10)) ((n % 10 + 48) ∷ []))

-- ten to the power of one more than d
tens : ℕ → ℕ
tens zero = 10
tens (suc d) = 10 * tens d

digits-few : (d k n : ℕ) → n < tens d → length (digits k n) ≤ suc d
unfolding tens digits
digits-few d zero n h = omega arith
digits-few zero (suc k) n h = omega (arith, ap length (digits-small k n h))
digits-few (suc d) (suc k) n h = go (digits-few d k (n / 10)) (dec_lt n 10)
  where
    go : (n / 10 < tens d → length (digits k (n / 10)) ≤ suc d) → Dec (n < 10) → length (digits (suc k) n) ≤ suc (suc d)
    go r (yes l) = omega (arith, ap length (digits-small k n l))
    go r (no l) = omega (arith, r (omega arith), ap length (digits-big k n (omega arith)), length-append (digits k (n / 10)) ((n % 10 + 48) ∷ []))

pub two_digits : (n : ℕ) → n < 100 → length (decimal n) ≤ 2
unfolding decimal tens
two_digits n h = digits-few 1 (suc n) n (omega arith)

pub three-digits : (n : ℕ) → n < 1000 → length (decimal n) ≤ 3
unfolding decimal tens
three-digits n h = digits-few 2 (suc n) n (omega arith)

pub four-digits : (n : ℕ) → n < 10000 → length (decimal n) ≤ 4
unfolding decimal tens
four-digits n h = digits-few 3 (suc n) n (omega arith)
