-- How many columns a mask picks, and how many it leaves. Assumes nothing.
use Prim.Native.Nat.{◌+◌}
use mathlib.Core.Path.{◌≡◌, refl, ap, ◌∙◌}
use mathlib.Core.List.{List, [], ◌∷◌}
use mathlib.Core.Bool.{Bool, true, false, cond}
use native.Mathlib.Omega.{arith}
use lib.ListN.{length}
use Rattle.text.specs.Text.{Bytes}
use Rattle.mask.specs.bridge.Mask.{bit_of, mask_of, count_of}
use Rattle.mask.proofs.Bits.{mask_low, mask-high}
use Rattle.columns.specs.bridge.Columns.{picked}
use Rattle.columns.proofs.Picked.{picked_none}

pub picked-one : (b : Bool) (bs : List Bool) (d : Bytes) (ds : List Bytes) → picked 1 (mask_of (b ∷ bs)) (d ∷ ds) ≡ cond b (d ∷ picked 1 (mask_of bs) ds) (picked 1 (mask_of bs) ds)
unfolding picked
picked-one true bs d ds = rw (mask_low true bs, mask-high true bs)
picked-one false bs d ds = rw (mask_low false bs, mask-high false bs)

pub picked-zero : (b : Bool) (bs : List Bool) (d : Bytes) (ds : List Bytes) → picked 0 (mask_of (b ∷ bs)) (d ∷ ds) ≡ cond b (picked 0 (mask_of bs) ds) (d ∷ picked 0 (mask_of bs) ds)
unfolding picked
picked-zero true bs d ds = rw (mask_low true bs, mask-high true bs)
picked-zero false bs d ds = rw (mask_low false bs, mask-high false bs)

pub picked-count : (bs : List Bool) (ds : List Bytes) → length bs ≡ length ds → (length (picked 1 (mask_of bs) ds) ≡ count_of bs) × (length (picked 0 (mask_of bs) ds) + count_of bs ≡ length ds)
picked-count [] [] e = (ap length (picked_none 1 (mask_of []) [] refl), ap (λ (l : List Bytes). length l + 0) (picked_none 0 (mask_of []) [] refl))
picked-count [] (d ∷ ds) e = absurd (omega arith)
picked-count (b ∷ bs) [] e = absurd (omega arith)
picked-count (b ∷ bs) (d ∷ ds) e =
    let r = picked-count bs ds (omega arith) in
    (ap length (picked-one b bs d ds) ∙ one b r.0, ap (λ (l : List Bytes). length l + count_of (b ∷ bs)) (picked-zero b bs d ds) ∙ zeros b r.1)
  where
    one : (t : Bool) → length (picked 1 (mask_of bs) ds) ≡ count_of bs → length (cond t (d ∷ picked 1 (mask_of bs) ds) (picked 1 (mask_of bs) ds)) ≡ bit_of t + count_of bs
    one true h = omega arith
    one false h = omega arith

    zeros : (t : Bool) → length (picked 0 (mask_of bs) ds) + count_of bs ≡ length ds → length (cond t (picked 0 (mask_of bs) ds) (d ∷ picked 0 (mask_of bs) ds)) + (bit_of t + count_of bs) ≡ length (d ∷ ds)
    zeros true h = omega arith
    zeros false h = omega arith
