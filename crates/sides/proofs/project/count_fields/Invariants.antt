-- What the loops of `project.count_fields` keep. Assumes nothing.
use Prim.Native.Nat.{◌+◌, ◌-◌, ◌≤◌}
use mathlib.Core.Path.{◌≡◌}
use lib.ListN.{length}
use Rattle.cursor.specs.bridge.Cursor.{left}
use Rattle.sides.proofs.project.count_fields.Given as goal

abbrev pub invariant-loop-next : goal.invariant-loop-next
invariant-loop-next l = (l.c + length (left l.text l.next l.end) ≡ length (left l.text l.initial.next l.end)) × (l.c ≤ l.next)

abbrev pub decreases-loop-next : goal.decreases-loop-next
decreases-loop-next l = l.end + 1 - l.next
