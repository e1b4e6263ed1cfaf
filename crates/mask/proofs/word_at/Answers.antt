-- `mask::word_at` meets its contract. Assumes nothing.
use native.Mathlib.Omega.{arith}
use Prim.Native.Nat.{◌/◌}
use Rattle.mask.specs.bridge.Words.{words_of}
use Rattle.mask.proofs.Laws as L
use Rattle.mask.proofs.word_at.Goals as goal

pub returns-then-i-lt64 : goal.returns-then-i-lt64
returns-then-i-lt64 c = let a = c.args in L.word-is (words_of a.mask) a.i 0 (omega arith)

pub returns-then-i-lt128 : goal.returns-then-i-lt128
returns-then-i-lt128 c = let a = c.args in L.word-is (words_of a.mask) a.i 1 (omega arith)

pub returns-then-i-lt192 : goal.returns-then-i-lt192
returns-then-i-lt192 c = let a = c.args in L.word-is (words_of a.mask) a.i 2 (omega arith)

pub returns-then-i-lt256 : goal.returns-then-i-lt256
returns-then-i-lt256 c = let a = c.args in L.word-is (words_of a.mask) a.i 3 (omega arith)

pub returns : goal.returns
returns c = let a = c.args in L.no_word _ _ _ _ (a.i / 64) (omega arith)
