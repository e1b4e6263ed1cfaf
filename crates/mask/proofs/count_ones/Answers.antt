-- `mask::count_ones` meets its contract. Assumes nothing.
use native.Mathlib.Omega.{arith}
use Rattle.mask.proofs.Laws as L
use Rattle.mask.proofs.count_ones.Goals as goal

pub returns : goal.returns
returns c = let g = c.well_formed in
    let p = c.ones_of_word-a.ensures in
    let q = c.ones_of_word-b.ensures in
    let r = c.ones_of_word-c.ensures in
    let s = c.ones_of_word-d.ensures in
    (L.four-ones _ _ _ _ _ _ _ _ (L.four _ _ _ _ (omega (arith, g)) (omega (arith, g)) (omega (arith, g)) (omega (arith, g))) p.0 q.0 r.0 s.0, omega arith)
