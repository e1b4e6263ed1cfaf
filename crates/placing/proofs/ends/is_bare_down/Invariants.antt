-- What the loops of `ends.is_bare_down` keep. Assumes nothing.
use Prim.Native.Nat.{ℕ, ◌-◌}
use mathlib.Core.Path.{◌≡◌}
use lib.ListN.{length}
use Rattle.text.specs.Text.{lines_from}
use Rattle.cursor.specs.declared.Cursor.{Cursor}
use Rattle.placing.specs.bridge.Ends.{bare_down}
use Rattle.placing.proofs.ends.is_bare_down.Given as goal

-- where a cursor is
abbrev pub at : Cursor → ℕ
at d = d.at

-- what is said from here is what is said from the start
abbrev pub invariant-loop-c : goal.invariant-loop-c
invariant-loop-c l = bare_down (lines_from l.text l.c.at) ≡ bare_down (lines_from l.text 0)

abbrev pub decreases-loop-c : goal.decreases-loop-c
decreases-loop-c l = length l.text - l.c.at
