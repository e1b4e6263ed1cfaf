-- Laws of writing a number in base ten, and a generated name. Assumes nothing.
use mathlib.Core.Path.{◌≡◌, refl, sym, ap, ◌∙◌}
use mathlib.Core.List.{[], ◌∷◌, ◌++◌, append_assoc}
use Prim.Native.Nat.{ℕ, zero, suc, ◌+◌, ◌/◌, ◌%◌, ◌≤◌, ◌<◌}
use native.Mathlib.Omega.{arith}
use native.Mathlib.Decide.{dec_lt}
use lib.ListN.{length, length-append}
use Rattle.text.specs.Text.{Bytes}
use Rattle.text.specs.Field.{digits, decimal}
use Rattle.text.proofs.Numbers.{digits-small, digits-big}
use Rattle.scoping.specs.Label.{generated}

-- any number of digits that is enough
fuel : (k j n : ℕ) → n < k → n < j → digits k n ≡ digits j n
fuel zero j n a b = absurd (omega arith)
fuel (suc k) zero n a b = absurd (omega arith)
fuel (suc k) (suc j) n a b = go (λ h. fuel k j (n / 10) (omega arith) (omega arith)) (dec_lt n 10)
  where
    go : (10 ≤ n → digits k (n / 10) ≡ digits j (n / 10)) → Dec (n < 10) → digits (suc k) n ≡ digits (suc j) n
    go e (yes l) = digits-small k n l ∙ sym (digits-small j n l)
    go e (no l) =
        let h : 10 ≤ n = omega arith in
        digits-big k n h ∙ ap (λ (d : Bytes). d ++ ((n % 10 + 48) ∷ [])) (e h) ∙ sym (digits-big j n h)

pub decimal-small : (n : ℕ) → n < 10 → decimal n ≡ (n + 48) ∷ []
unfolding decimal
decimal-small n h = digits-small n n h

pub decimal-big : (n : ℕ) → 10 ≤ n → decimal n ≡ decimal (n / 10) ++ ((n % 10 + 48) ∷ [])
unfolding decimal
decimal-big n h =
    digits-big n n h
    ∙ ap (λ (d : Bytes). d ++ ((n % 10 + 48) ∷ [])) (fuel n (suc (n / 10)) (n / 10) (omega arith) (omega arith))

-- two digits at a time
pub decimal-two : (n : ℕ) → 10 ≤ n → n < 100 → decimal n ≡ (n / 10 + 48) ∷ (n % 10 + 48) ∷ []
decimal-two n h l = decimal-big n h ∙ ap (λ (d : Bytes). d ++ ((n % 10 + 48) ∷ [])) (decimal-small (n / 10) (omega arith))

pub decimal-hundreds : (n : ℕ) → 100 ≤ n → decimal n ≡ decimal (n / 100) ++ ((n % 100 / 10 + 48) ∷ (n % 100 % 10 + 48) ∷ [])
decimal-hundreds n h =
    let a : n / 10 / 10 ≡ n / 100 = omega arith in
    let b : n / 10 % 10 ≡ n % 100 / 10 = omega arith in
    let c : n % 10 ≡ n % 100 % 10 = omega arith in
    decimal-big n (omega arith)
    ∙ ap (λ (d : Bytes). d ++ ((n % 10 + 48) ∷ [])) (decimal-big (n / 10) (omega arith))
    ∙ append_assoc (decimal (n / 10 / 10)) ((n / 10 % 10 + 48) ∷ []) ((n % 10 + 48) ∷ [])
    ∙ (λ i. decimal (a i) ++ ((b i + 48) ∷ (c i + 48) ∷ []))

-- a generated name is `?`, its letter and its number
pub generated-is : (prefix n : ℕ) → (63 ∷ []) ++ (prefix ∷ []) ++ decimal n ≡ generated prefix n
unfolding generated
generated-is prefix n = refl

-- ---- how long they are

-- one digit, or one more than a tenth of the number has
digit-more : (n k : ℕ) → (10 ≤ n → length (decimal (n / 10)) ≤ k) → Dec (n < 10) → length (decimal n) ≤ suc k
digit-more n k h (yes l) = let e = ap length (decimal-small n l) in omega arith
digit-more n k h (no l) =
    let e = ap length (decimal-big n (omega arith)) in
    let d = h (omega arith) in
    omega (arith, e, d, length-append (decimal (n / 10)) ((n % 10 + 48) ∷ []))

digit-one : (n : ℕ) → n < 10 → length (decimal n) ≤ 1
digit-one n h = let e = ap length (decimal-small n h) in omega arith

digits-two : (n : ℕ) → n < 100 → length (decimal n) ≤ 2
digits-two n h = digit-more n 1 (λ l. digit-one (n / 10) (omega arith)) (dec_lt n 10)

digits-three : (n : ℕ) → n < 1000 → length (decimal n) ≤ 3
digits-three n h = digit-more n 2 (λ l. digits-two (n / 10) (omega arith)) (dec_lt n 10)

digits-four : (n : ℕ) → n < 10000 → length (decimal n) ≤ 4
digits-four n h = digit-more n 3 (λ l. digits-three (n / 10) (omega arith)) (dec_lt n 10)

-- the numbers of 16 bits have at most five digits
pub digits-five : (n : ℕ) → n < 65536 → length (decimal n) ≤ 5
digits-five n h = digit-more n 4 (λ l. digits-four (n / 10) (omega arith)) (dec_lt n 10)
