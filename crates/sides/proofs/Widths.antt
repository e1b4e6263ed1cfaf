-- The ones of a mask of positions are the columns picked, and the others are not. Assumes nothing.
use Prim.Native.Nat.{ℕ, zero, suc, ◌+◌, ◌-◌, ◌≤◌}
use mathlib.Core.Path.{◌≡◌, refl, ap, ◌∙◌}
use mathlib.Core.List.{List, map}
use mathlib.Core.Bool.{Bool}
use native.Mathlib.Omega.{arith}
use lib.ListN.{length}
use lib.Count.{ones}
use Rattle.text.specs.Text.{Bytes}
use Rattle.merging.specs.Names.{from, is_at}
use Rattle.merging.proofs.Lists.{map-length}
use Rattle.columns.specs.bridge.Columns.{picked}
use Rattle.mask.specs.bridge.Mask.{count_of}
use Rattle.mask.proofs.Bits.{mask-ones}
use Rattle.columns.proofs.Counted.{picked-count}
use Rattle.sides.specs.bridge.Side.{mask_at}

from-length : (i n : ℕ) → length (from i n) ≡ n
unfolding from
from-length i zero = refl
from-length i (suc n) = ap suc (from-length (suc i) n)

pub mask-picks : (ps : List ℕ) (ds : List Bytes) (m : ℕ) → m ≡ mask_at ps (length ds) → (ones m ≡ length (picked 1 m ds)) × (ones m ≤ length ds) × (length ds - ones m ≡ length (picked 0 m ds))
mask-picks ps ds m e =
    let bs : List Bool = map (λ i. is_at i ps) (from 0 (length ds)) in
    let n : length bs ≡ length ds = map-length (λ i. is_at i ps) (from 0 (length ds)) ∙ from-length 0 (length ds) in
    let c = picked-count bs ds n in
    let o : ones m ≡ count_of bs = ap ones e ∙ mask-ones bs in
    let p : length (picked 1 m ds) ≡ count_of bs = ap (λ (k : ℕ). length (picked 1 k ds)) e ∙ c.0 in
    let q : length (picked 0 m ds) + count_of bs ≡ length ds = ap (λ (k : ℕ). length (picked 0 k ds) + count_of bs) e ∙ c.1 in
    (omega arith, omega arith, omega arith)
