-- Bits as a number: built from the lowest on, and how many ones it has. Assumes nothing.
use Prim.Native.Nat.{ℕ, suc, ◌+◌, ◌*◌, ◌/◌, ◌%◌, ◌^◌, ◌≤◌, ◌<◌}
use mathlib.Core.Path.{◌≡◌, refl, sym, ap, ap₂, ◌∙◌}
use mathlib.Core.List.{List, [], ◌∷◌}
use mathlib.Core.Bool.{Bool, true, false}
use native.Mathlib.Nat.{pow-suc, mul_assoc, mul_comm, add-mul, max-zero, max-eq_right}
use native.Mathlib.Numerals.{add-one}
use native.Mathlib.Omega.{arith}
use lib.ListN.{length}
use lib.Count.{ones, ones_step}
use lib.Bits.{bit_or, or_step, or_zero_r}
use Rattle.mask.specs.bridge.Mask.{bit_of, mask_of, count_of}

-- ---- one bit more

bit-small : (b : Bool) → bit_of b ≤ 1
bit-small true = omega arith
bit-small false = omega arith

pub bit_below : (b : Bool) (g i : ℕ) → g < 2 ^ i → g + bit_of b * 2 ^ i < 2 ^ (i + 1)
bit_below b g i h =
    let e : 2 ^ (i + 1) ≡ 2 ^ i * 2 = ap (λ (n : ℕ). 2 ^ n) (add-one i) ∙ pow-suc 2 i in
    go b e
  where
    go : (b : Bool) → 2 ^ (i + 1) ≡ 2 ^ i * 2 → g + bit_of b * 2 ^ i < 2 ^ (i + 1)
    go true e = omega arith
    go false e = omega arith

-- what the higher bits add
pub mask_step : (g i : ℕ) (b : Bool) (bs : List Bool) → (g + bit_of b * 2 ^ i) + mask_of bs * 2 ^ (i + 1) ≡ g + mask_of (b ∷ bs) * 2 ^ i
unfolding mask_of
mask_step g i b bs =
    let e : 2 ^ (i + 1) ≡ 2 * 2 ^ i = ap (λ (n : ℕ). 2 ^ n) (add-one i) ∙ pow-suc 2 i ∙ mul_comm (2 ^ i) 2 in
    let m : mask_of bs * 2 ^ (i + 1) ≡ 2 * mask_of bs * 2 ^ i = ap (λ (n : ℕ). mask_of bs * n) e ∙ sym (mul_assoc (mask_of bs) 2 (2 ^ i)) ∙ ap (λ (n : ℕ). n * 2 ^ i) (mul_comm (mask_of bs) 2) in
    let d : (bit_of b + 2 * mask_of bs) * 2 ^ i ≡ bit_of b * 2 ^ i + 2 * mask_of bs * 2 ^ i = add-mul (bit_of b) (2 * mask_of bs) (2 ^ i) in
    omega arith

pub mask_done : (g i : ℕ) (bs : List Bool) (w : ℕ) → bs ≡ [] → g + mask_of bs * 2 ^ i ≡ w → g ≡ w
unfolding mask_of
mask_done g i bs w e h = let k : g + 0 * 2 ^ i ≡ w = rw e at h in omega arith

pub mask_start : (bs : List Bool) → 0 + mask_of bs * 2 ^ 0 ≡ mask_of bs
mask_start bs = let z : 0 + mask_of bs * 1 ≡ mask_of bs = omega arith in z

-- ---- reading

pub mask_low : (b : Bool) (bs : List Bool) → mask_of (b ∷ bs) % 2 ≡ bit_of b
unfolding mask_of
mask_low true bs = omega arith
mask_low false bs = omega arith

pub mask-high : (b : Bool) (bs : List Bool) → mask_of (b ∷ bs) / 2 ≡ mask_of bs
unfolding mask_of
mask-high true bs = omega arith
mask-high false bs = omega arith

pub mask-ones : (bs : List Bool) → ones (mask_of bs) ≡ count_of bs
unfolding mask_of ones
mask-ones [] = refl
mask-ones (b ∷ bs) = ones_step (mask_of (b ∷ bs)) ∙ ap₂ (λ (x y : ℕ). x + ones y) (mask_low b bs) (mask-high b bs) ∙ ap (λ (n : ℕ). bit_of b + n) (mask-ones bs)

pub count-few : (bs : List Bool) → count_of bs ≤ length bs
count-few [] = omega arith
count-few (b ∷ bs) = let a = count-few bs in let d = bit-small b in omega arith

-- ---- a bit set by `or`

pub or-first : (b : Bool) (bs : List Bool) → bit_or (mask_of (b ∷ bs)) 1 ≡ mask_of (true ∷ bs)
unfolding mask_of
or-first b bs = or_step (mask_of (b ∷ bs)) 1 ∙ rw (mask-high b bs, mask_low b bs, or_zero_r (mask_of bs), max-eq_right (bit-small b)) (omega arith)

pub or_later : (b : Bool) (bs cs : List Bool) (k : ℕ) → bit_or (mask_of bs) (2 ^ k) ≡ mask_of cs → bit_or (mask_of (b ∷ bs)) (2 ^ suc k) ≡ mask_of (b ∷ cs)
unfolding mask_of
or_later b bs cs k h =
    let p : 2 ^ suc k ≡ 2 ^ k * 2 = pow-suc 2 k in
    let x : 2 ^ suc k / 2 ≡ 2 ^ k = omega arith in
    let y : 2 ^ suc k % 2 ≡ 0 = omega arith in
    or_step (mask_of (b ∷ bs)) (2 ^ suc k) ∙ rw (mask-high b bs, mask_low b bs, x, y, h, max-zero (bit_of b)) (omega arith)
