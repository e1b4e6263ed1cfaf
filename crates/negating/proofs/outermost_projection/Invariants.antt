-- What the loops of `outermost_projection` keep. Assumes nothing.
use Prim.Native.Nat.{ℕ, ◌-◌, ◌≤◌}
use mathlib.Core.Path.{◌≡◌}
use lib.ListN.{length}
use Rattle.text.specs.Text.{lines_from}
use Rattle.cursor.specs.declared.Cursor.{Cursor}
use Rattle.negating.specs.bridge.Lines.{from_project}
use Rattle.negating.proofs.outermost_projection.Given as goal

-- where a cursor is
abbrev pub at : Cursor → ℕ
at d = d.at

-- the way down from here is that from the start
abbrev pub invariant-loop-c : goal.invariant-loop-c
invariant-loop-c l = (l.from ≤ l.c.at) × (from_project (lines_from l.text l.from) ≡ from_project (lines_from l.text l.c.at))

abbrev pub decreases-loop-c : goal.decreases-loop-c
decreases-loop-c l = length l.text - l.c.at
