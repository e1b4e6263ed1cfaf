-- What the loops of `ends.pattern_end` keep. Assumes nothing.
use Prim.Native.Nat.{ℕ, ◌+◌, ◌-◌, ◌*◌, ◌≤◌}
use lib.ListN.{length}
use Rattle.cursor.specs.declared.Cursor.{Cursor}
use Rattle.placing.proofs.Copied as C
use Rattle.placing.proofs.ends.pattern_end.Given as goal

-- where a cursor is, and what it awaits
abbrev pub at : Cursor → ℕ
at d = d.at

abbrev pub awaited : Cursor → ℕ
awaited d = d.awaited

abbrev pub invariant-loop-c : goal.invariant-loop-c
invariant-loop-c l = (l.from ≤ l.c.at) × (l.c.at ≤ length l.text) × (l.c.awaited ≤ 1 + l.c.at * 17179869183) × C.Going l.text l.from l.c.at l.c.awaited

abbrev pub decreases-loop-c : goal.decreases-loop-c
decreases-loop-c l = length l.text + 1 - l.c.at
