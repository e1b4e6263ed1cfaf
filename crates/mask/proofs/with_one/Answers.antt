-- `mask::with_one` meets its contract. Assumes nothing.
use native.Mathlib.Omega.{arith}
use Prim.Native.Nat.{◌-◌}
use Rattle.mask.specs.bridge.Words.{words_of}
use Rattle.mask.proofs.Laws as L
use Rattle.mask.proofs.with_one.Goals as goal

pub returns-then-i-lt64 : goal.returns-then-i-lt64
returns-then-i-lt64 c =
    let a = c.args in let g = c.well_formed in L.set-in {ws = words_of a.mask} (L.four _ _ _ _ (omega (arith, g)) (omega (arith, g)) (omega (arith, g)) (omega (arith, g))) 0 a.i a.i (omega arith) (omega arith) (omega arith)

pub returns-then-i-lt128 : goal.returns-then-i-lt128
returns-then-i-lt128 c =
    let a = c.args in let g = c.well_formed in L.set-in {ws = words_of a.mask} (L.four _ _ _ _ (omega (arith, g)) (omega (arith, g)) (omega (arith, g)) (omega (arith, g))) 1 (a.i - 64) a.i (omega arith) (omega arith) (omega arith)

pub returns-then-i-lt192 : goal.returns-then-i-lt192
returns-then-i-lt192 c =
    let a = c.args in let g = c.well_formed in L.set-in {ws = words_of a.mask} (L.four _ _ _ _ (omega (arith, g)) (omega (arith, g)) (omega (arith, g)) (omega (arith, g))) 2 (a.i - 128) a.i (omega arith) (omega arith) (omega arith)

pub returns : goal.returns
returns c =
    let a = c.args in let g = c.well_formed in L.set-in {ws = words_of a.mask} (L.four _ _ _ _ (omega (arith, g)) (omega (arith, g)) (omega (arith, g)) (omega (arith, g))) 3 (a.i - 192) a.i (omega arith) (omega arith) (omega arith)
