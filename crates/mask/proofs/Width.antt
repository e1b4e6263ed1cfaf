-- The record of dropped columns over any width: with one bit a column, the columns less the ones are the columns that stay. Assumes nothing.
use Prim.Native.Nat.{ℕ, zero, suc, ◌+◌, ◌*◌, ◌-◌, ◌/◌, ◌%◌, ◌^◌, ◌≤◌, ◌<◌}
use mathlib.Core.Path.{◌≡◌, refl, sym, ap, ap₂, ◌∙◌}
use mathlib.Core.List.{List, [], ◌∷◌}
use mathlib.Core.Bool.{Bool, true, false}
use native.Mathlib.Nat.{pow-suc}
use native.Mathlib.Omega.{arith}
use lib.ListN.{length}
use lib.Pow.{pow_mono}
use lib.Count.{ones}
use Rattle.mask.specs.bridge.Mask.{bit_of, mask_of, count_of, stay_of, value_of, ones_in}
use Rattle.mask.proofs.Words.{Words, none, also, value-ones}
use Rattle.mask.proofs.Bits.{mask-ones}

-- as many bits as there are columns are room enough
pub mask_below : (bs : List Bool) → mask_of bs < 2 ^ length bs
unfolding mask_of
mask_below [] = omega arith
mask_below (true ∷ bs) = let i = mask_below bs in let e = pow-suc 2 (length bs) in omega arith
mask_below (false ∷ bs) = let i = mask_below bs in let e = pow-suc 2 (length bs) in omega arith

count-stay : (bs : List Bool) → count_of bs + stay_of bs ≡ length bs
count-stay [] = refl
count-stay (true ∷ bs) = omega (arith, count-stay bs)
count-stay (false ∷ bs) = omega (arith, count-stay bs)

-- ---- the one fact

-- n words are enough for 64 * n columns
pub columns-fit : (n : ℕ) (bs : List Bool) → length bs ≤ 64 * n → mask_of bs < 2 ^ (64 * n)
columns-fit n bs h = let a = mask_below bs in let b : 2 ^ length bs ≤ 2 ^ (64 * n) = pow_mono {i = length bs} {j = 64 * n} h in omega arith

-- however many words: they have one bit a column, so the columns less the words' ones are the columns that stay
pub columns-left : {ws : List ℕ} → Words ws → (bs : List Bool) → value_of ws ≡ mask_of bs → length bs - ones_in ws ≡ stay_of bs
columns-left {ws} w bs e =
    let a : ones_in ws ≡ count_of bs = sym (value-ones w) ∙ ap ones e ∙ mask-ones bs in
    let b = count-stay bs in
    omega arith

-- one word serves 64 columns, and four serve 256: their ones are those of the columns that go
pub one-word-left : (w : ℕ) → w < 2 ^ 64 → (bs : List Bool) → length bs ≤ 64 → value_of (w ∷ []) ≡ mask_of bs → length bs - ones_in (w ∷ []) ≡ stay_of bs
one-word-left w h bs few e = columns-left (also h none) bs e

pub four-words-left : (a b c d : ℕ) → a < 2 ^ 64 → b < 2 ^ 64 → c < 2 ^ 64 → d < 2 ^ 64 → (bs : List Bool) → length bs ≤ 256 → value_of (a ∷ b ∷ c ∷ d ∷ []) ≡ mask_of bs
    → length bs - ones_in (a ∷ b ∷ c ∷ d ∷ []) ≡ stay_of bs
four-words-left a b c d p q r s bs few e = columns-left (also p (also q (also r (also s none)))) bs e
