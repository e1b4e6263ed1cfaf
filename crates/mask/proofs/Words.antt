-- Masks of any number of words: the ones of the number are those of its words, its bits are those of its words, and a bit more. Assumes nothing.
use Prim.Native.Nat.{ℕ, zero, suc, ◌+◌, ◌*◌, ◌-◌, ◌/◌, ◌%◌, ◌^◌, ◌≤◌, ◌<◌}
use mathlib.Core.Path.{◌≡◌, refl, sym, ap, ap₂, subst, ◌∙◌}
use mathlib.Core.List.{List, [], ◌∷◌}
use mathlib.Core.Bool.{Bool, true, false}
use native.Mathlib.Nat.{add_comm, add-mul, mul_assoc}
use native.Mathlib.Omega.{arith}
use lib.ListN.{length, get_or, set}
use lib.Bits.{bit_or, or_block, or_zero_r}
use lib.Pow.{pow-add, pow_mono, pow_pos, shr_le, shr-shr, high, low, field, mod-mod-pow}
use lib.Count.{ones, ones_cat}
use Rattle.mask.specs.bridge.Mask.{value_of, ones_in}

-- each is a word of 64 bits
pub data Words : List ℕ → Type 0 where
  none : Words []
  also : {w : ℕ} {ws : List ℕ} → w < 2 ^ 64 → Words ws → Words (w ∷ ws)

-- ---- the ones

-- one fact, whatever the number of words: the ones of a mask are counted word by word
pub value-ones : {ws : List ℕ} → Words ws → ones (value_of ws) ≡ ones_in ws
unfolding value_of ones_in ones
value-ones none = refl
value-ones (also {w} {ws} h k) = ones_cat 64 (value_of ws) w h ∙ ap (λ (n : ℕ). n + ones w) (value-ones k) ∙ add_comm (ones_in ws) (ones w)

-- the number is below two to the width
pub value-below : {ws : List ℕ} → Words ws → value_of ws < 2 ^ (64 * length ws)
unfolding value_of
value-below none = omega arith
value-below (also {w} {ws} h k) =
    let i = value-below k in
    let e : 2 ^ (64 * suc (length ws)) ≡ 2 ^ (64 * length ws) * 2 ^ 64 = ap (λ (n : ℕ). 2 ^ n) (omega arith) ∙ pow-add 2 (64 * length ws) 64 in
    omega arith

-- ---- one bit: bit j of word k is bit 64 * k + j of the number

next_bit : (k j : ℕ) → 64 * suc k + j ≡ 64 + (64 * k + j)
next_bit k j = omega arith

no-bit : (i : ℕ) → 0 / 2 ^ i % 2 ≡ 0
no-bit i = let z = shr_le 0 i in omega arith

low_bit : (v w j : ℕ) → w < 2 ^ 64 → j < 64 → (v * 2 ^ 64 + w) / 2 ^ j % 2 ≡ w / 2 ^ j % 2
low_bit v w j h l =
    let e : 64 ≡ (63 - j) + (1 + j) = omega arith in
    let n = v * 2 ^ 64 + w in
    let a : n % 2 ^ (1 + j) ≡ w % 2 ^ (1 + j)
    = sym (mod-mod-pow n (63 - j) (1 + j)) ∙ ap (λ (x : ℕ). n % 2 ^ x % 2 ^ (1 + j)) (sym e) ∙ ap (λ (x : ℕ). x % 2 ^ (1 + j)) (low v 64 h) in
    sym (field n 1 j) ∙ ap (λ (x : ℕ). x / 2 ^ j) a ∙ field w 1 j

pub value-bit : {ws : List ℕ} → Words ws → (k j : ℕ) → j < 64 → value_of ws / 2 ^ (64 * k + j) % 2 ≡ get_or ws k 0 / 2 ^ j % 2
unfolding value_of
value-bit none k j l = no-bit (64 * k + j) ∙ sym (no-bit j)
value-bit (also {w} {ws} h t) zero j l = ap (λ (n : ℕ). (value_of ws * 2 ^ 64 + w) / 2 ^ n % 2) (omega arith) ∙ low_bit (value_of ws) w j h l
value-bit (also {w} {ws} h t) (suc k) j l =
    let n = value_of ws * 2 ^ 64 + w in
    ap (λ (x : ℕ). n / 2 ^ x % 2) (next_bit k j)
    ∙ ap (λ (x : ℕ). x % 2) (sym (shr-shr n 64 (64 * k + j)) ∙ ap (λ (x : ℕ). x / 2 ^ (64 * k + j)) (high (value_of ws) 64 h))
    ∙ value-bit t k j l

-- ---- one bit more

-- a bit set in a word is that bit set in the number
pub value-or : {ws : List ℕ} → Words ws → (k b : ℕ) → k < length ws → b < 2 ^ 64 → value_of (set ws k (bit_or (get_or ws k 0) b)) ≡ bit_or (value_of ws) (b * 2 ^ (64 * k))
unfolding value_of
value-or none k b h l = absurd (omega arith)
value-or (also {w} {ws} f t) zero b h l =
    let v = value_of ws in
    let z : b * 2 ^ (64 * 0) ≡ 0 * 2 ^ 64 + b = omega arith in
    sym (ap (bit_or (v * 2 ^ 64 + w)) z ∙ or_block 64 v 0 w b f l ∙ ap (λ (n : ℕ). n * 2 ^ 64 + bit_or w b) (or_zero_r v))
value-or (also {w} {ws} f t) (suc k) b h l =
    let v = value_of ws in
    let e : 2 ^ (64 * suc k) ≡ 2 ^ (64 * k) * 2 ^ 64 = ap (λ (n : ℕ). 2 ^ n) (omega arith) ∙ pow-add 2 (64 * k) 64 in
    let d : b * 2 ^ (64 * suc k) ≡ b * 2 ^ (64 * k) * 2 ^ 64 = ap (λ (n : ℕ). b * n) e ∙ sym (mul_assoc b (2 ^ (64 * k)) (2 ^ 64)) in
    let z : b * 2 ^ (64 * suc k) ≡ b * 2 ^ (64 * k) * 2 ^ 64 + 0 = omega arith in
    ap (λ (n : ℕ). n * 2 ^ 64 + w) (value-or t k b (omega arith) l)
    ∙ sym (ap (bit_or (v * 2 ^ 64 + w)) z ∙ or_block 64 v (b * 2 ^ (64 * k)) w 0 f (pow_pos 64) ∙ ap (λ (n : ℕ). bit_or v (b * 2 ^ (64 * k)) * 2 ^ 64 + n) (or_zero_r w))
