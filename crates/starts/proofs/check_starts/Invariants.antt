-- What the loops of `check_starts` keep. Assumes nothing.
use Prim.Native.Nat.{ℕ, ◌-◌}
use lib.ListN.{length}
use Rattle.cursor.specs.declared.Cursor.{Cursor}
use Rattle.starts.proofs.Going as G
use Rattle.starts.proofs.check_starts.Given as goal

-- where a cursor is
abbrev pub at : Cursor → ℕ
at d = d.at

abbrev pub invariant-loop-c : goal.invariant-loop-c
invariant-loop-c l = G.Going l.text l.keys l.c.at l.n

abbrev pub decreases-loop-c : goal.decreases-loop-c
decreases-loop-c l = length l.text - l.c.at
