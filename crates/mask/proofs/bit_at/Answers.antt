-- `mask::bit_at` meets its contract. Assumes nothing.
use native.Mathlib.Omega.{arith}
use Rattle.mask.proofs.Laws as L
use Rattle.mask.proofs.bit_at.Goals as goal

pub returns : goal.returns
returns c =
    let g = c.well_formed in L.bit_is (L.four _ _ _ _ (omega (arith, g)) (omega (arith, g)) (omega (arith, g)) (omega (arith, g))) _ _ c.word_at.ensures
