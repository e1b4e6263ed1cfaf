-- What the loops of `judge.judge` keep. Assumes nothing.
use Prim.Native.Nat.{ℕ, ◌-◌}
use lib.ListN.{length}
use Rattle.cursor.specs.declared.Cursor.{Cursor}
use Rattle.binding.proofs.Judging as J
use Rattle.binding.proofs.judge.judge.Given as goal

-- where a cursor is
abbrev pub at : Cursor → ℕ
at d = d.at

abbrev pub invariant-loop-c : goal.invariant-loop-c
invariant-loop-c l = J.Going l.width l.sets l.c.at l.judged

abbrev pub decreases-loop-c : goal.decreases-loop-c
decreases-loop-c l = length l.sets - l.c.at
