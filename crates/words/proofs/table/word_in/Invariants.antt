-- What the loops of `table.word_in` keep. Assumes nothing.
use Prim.Native.Nat.{◌-◌}
use mathlib.Core.Path.{◌≡◌}
use lib.ListN.{take, drop}
use Rattle.words.specs.bridge.Words.{code_by}
use Rattle.words.proofs.table.word_in.Given as goal

abbrev pub invariant-loop-i : goal.invariant-loop-i
invariant-loop-i l = code_by l.key (take (l.to - l.i) (drop l.i l.words)) ≡ code_by l.key (take (l.to - l.from) (drop l.from l.words))
