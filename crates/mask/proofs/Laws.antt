-- What the functions of a mask of four words say of its number. Assumes nothing.
use Prim.Native.Nat.{ℕ, zero, suc, ◌+◌, ◌*◌, ◌-◌, ◌/◌, ◌%◌, ◌^◌, ◌≤◌, ◌<◌}
use mathlib.Core.Path.{◌≡◌, refl, sym, ap, ap₂, subst, ◌∙◌}
use mathlib.Core.List.{List, [], ◌∷◌}
use mathlib.Core.Bool.{Bool, true, false}
use native.Mathlib.Nat.{add_comm, one-mul}
use native.Mathlib.Omega.{arith}
use lib.ListN.{length, get_or, set}
use lib.Bits.{bit_or, or_shifted_r}
use lib.Pow.{pow-add, pow-lt, shl_exact}
use lib.Count.{ones, ones-le}
use mir.Syntax.{w64}
use mir.Val.{Fits}
use Rattle.mask.specs.bridge.Mask.{bit_of, value_of, ones_in}
use Rattle.mask.proofs.Words.{Words, none, also, value-ones, value-bit, value-or}

pub four : (a b c d : ℕ) → a < 2 ^ 64 → b < 2 ^ 64 → c < 2 ^ 64 → d < 2 ^ 64 → Words (a ∷ b ∷ c ∷ d ∷ [])
four a b c d p q r s = also p (also q (also r (also s none)))

pub ones-fit : (m : ℕ) → Fits w64 m → Fits w64 (ones m)
ones-fit m f = let a : ones m ≤ 64 = ones-le 64 m f.fits in record { fits = let b : 64 < 2 ^ 64 = omega arith in omega arith }

-- the ones of four words
pub four-ones : (a b c d i j k l : ℕ) → Words (a ∷ b ∷ c ∷ d ∷ []) → i ≡ ones a → j ≡ ones b → k ≡ ones c → l ≡ ones d → i + j + k + l ≡ ones (value_of (a ∷ b ∷ c ∷ d ∷ []))
unfolding ones_in
four-ones a b c d i j k l w p q r s = let z = value-ones w in omega arith

-- ---- the bit j of word k, at number 64 * k + j

shifted : (j : ℕ) → j < 64 → (1 * 2 ^ j) % 2 ^ 64 ≡ 2 ^ j
shifted j h = shl_exact 1 j 64 (omega arith) (omega arith) ∙ (let z : 1 * 2 ^ j ≡ 2 ^ j = omega arith in z)

pub set-in : {ws : List ℕ} → Words ws → (k j i : ℕ) → k < length ws → j + 64 * k ≡ i → j < 64 → value_of (set ws k (bit_or (get_or ws k 0) ((1 * 2 ^ j) % 2 ^ 64))) ≡ bit_or (value_of ws) (2 ^ i)
set-in {ws} w k j i n e l =
    let s = shifted j l in
    let p : 2 ^ j < 2 ^ 64 = pow-lt {i = j} {j = 64} l in
    ap (λ (b : ℕ). value_of (set ws k (bit_or (get_or ws k 0) b))) s
    ∙ value-or w k (2 ^ j) n p
    ∙ ap (bit_or (value_of ws)) (sym (pow-add 2 j (64 * k)) ∙ ap (λ (n : ℕ). 2 ^ n) e)

-- behind all that are set a bit is added
pub bit-set : (b : Bool) (v r i : ℕ) → b ≡ true → v < 2 ^ i → r ≡ bit_or v (2 ^ i) → r ≡ v + bit_of b * 2 ^ i
bit-set b v r i h l e =
    let o : bit_or v (1 * 2 ^ i) ≡ 1 * 2 ^ i + v = or_shifted_r 1 i v l in
    let z : r ≡ v + 1 * 2 ^ i = e ∙ ap (bit_or v) (sym (one-mul (2 ^ i))) ∙ o ∙ add_comm (1 * 2 ^ i) v in
    rw h z

pub bit-none : (b : Bool) (v i : ℕ) → b ≡ false → v ≡ v + bit_of b * 2 ^ i
bit-none b v i h = rw h (let z : v ≡ v + 0 * 2 ^ i = omega arith in z)

-- ---- reading

pub bit_is : {ws : List ℕ} → Words ws → (i r : ℕ) → r ≡ get_or ws (i / 64) 0 → r / 2 ^ (i % 64) % 2 ≡ value_of ws / 2 ^ i % 2
bit_is {ws} w i r h =
    let e : 64 * (i / 64) + i % 64 ≡ i = omega arith in
    ap (λ (n : ℕ). n / 2 ^ (i % 64) % 2) h ∙ sym (value-bit w (i / 64) (i % 64) (omega arith)) ∙ ap (λ (n : ℕ). value_of ws / 2 ^ n % 2) e

pub word-is : (ws : List ℕ) (i k : ℕ) → i / 64 ≡ k → get_or ws k 0 ≡ get_or ws (i / 64) 0
word-is ws i k h = ap (λ (n : ℕ). get_or ws n 0) (sym h)

pub no_word : (a b c d k : ℕ) → 4 ≤ k → 0 ≡ get_or (a ∷ b ∷ c ∷ d ∷ []) k 0
no_word a b c d zero h = absurd (omega arith)
no_word a b c d (suc zero) h = absurd (omega arith)
no_word a b c d (suc (suc zero)) h = absurd (omega arith)
no_word a b c d (suc (suc (suc zero))) h = absurd (omega arith)
no_word a b c d (suc (suc (suc (suc k)))) h = refl
