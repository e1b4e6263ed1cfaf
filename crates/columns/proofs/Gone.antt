-- Which columns go because another side has them, one after the other. Assumes nothing.
use Prim.Native.Nat.{ℕ, ◌+◌, ◌*◌, ◌/◌, ◌%◌, ◌^◌}
use mathlib.Core.Path.{◌≡◌, sym, ap, ap₂, ◌∙◌}
use mathlib.Core.List.{List, [], ◌∷◌}
use mathlib.Core.Bool.{Bool, ◌||◌}
use lib.Dec.{eqb}
use lib.Pow.{shr-shr}
use Rattle.text.specs.Text.{Bytes}
use Rattle.algebra.specs.Valid.{mem}
use Rattle.mask.specs.bridge.Mask.{bit_of, mask_of}
use Rattle.mask.proofs.Bits.{mask_start, mask_step}
use Rattle.columns.specs.bridge.Columns.{gone_bits}
use Rattle.columns.proofs.Picked.{from_all}

module _ (v i : ℕ) (f : Bytes) (fs gs : List Bytes) (are : gs ≡ f ∷ fs) (js : List Bytes) where
  gone-bits : gone_bits (v / 2 ^ i) js gs ≡ (eqb (v / 2 ^ i % 2) 1 || mem f js) ∷ gone_bits (v / 2 ^ (i + 1)) js fs
  unfolding gone_bits
  gone-bits = ap (gone_bits (v / 2 ^ i) js) are ∙ ap (λ (n : ℕ). (eqb (v / 2 ^ i % 2) 1 || mem f js) ∷ gone_bits n js fs) (shr-shr v i 1)

  pub gone-next : (g g' w r : ℕ) (f' : Bytes) → f' ≡ f → (t : Bool) → r ≡ v / 2 ^ i % 2 → t ≡ (eqb r 1 || mem f' js) → g' ≡ g + bit_of t * 2 ^ i
      → g + mask_of (gone_bits (v / 2 ^ i) js gs) * 2 ^ i ≡ w → g' + mask_of (gone_bits (v / 2 ^ (i + 1)) js fs) * 2 ^ (i + 1) ≡ w
  gone-next g g' w r f' is t bit p q e =
      ap (λ (x : ℕ). x + mask_of (gone_bits (v / 2 ^ (i + 1)) js fs) * 2 ^ (i + 1)) q
      ∙ mask_step g i t (gone_bits (v / 2 ^ (i + 1)) js fs)
      ∙ ap (λ (x : Bool). g + mask_of (x ∷ gone_bits (v / 2 ^ (i + 1)) js fs) * 2 ^ i) (p ∙ ap₂ (λ (n : ℕ) (x : Bytes). eqb n 1 || mem x js) bit is)
      ∙ ap (λ (l : List Bool). g + mask_of l * 2 ^ i) (sym gone-bits)
      ∙ e

pub gone-start : (v g : ℕ) (js gs : List Bytes) → g ≡ 0 → g + mask_of (gone_bits (v / 2 ^ 0) js gs) * 2 ^ 0 ≡ mask_of (gone_bits v js gs)
gone-start v g js gs e = ap₂ (λ (x n : ℕ). x + mask_of (gone_bits n js gs) * 2 ^ 0) e (from_all v) ∙ mask_start (gone_bits v js gs)

pub gone-end : (bits : ℕ) (js gs : List Bytes) → gs ≡ [] → gone_bits bits js gs ≡ []
unfolding gone_bits
gone-end bits js gs e = ap (gone_bits bits js) e
