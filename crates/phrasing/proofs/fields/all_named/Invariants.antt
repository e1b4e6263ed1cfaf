-- What the loops of `fields.all_named` keep. Assumes nothing.
use Prim.Native.Nat.{◌+◌, ◌-◌, ◌≤◌}
use mathlib.Core.Path.{◌≡◌}
use Rattle.cursor.specs.bridge.Cursor.{left}
use Rattle.editions.specs.Refusals.{all_allowed}
use Rattle.phrasing.proofs.fields.all_named.Given as goal

abbrev pub invariant-loop-next : goal.invariant-loop-next
invariant-loop-next l = (l.next ≤ l.end + 1) × (all_allowed (left l.query l.from l.end) ≡ all_allowed (left l.query l.next l.end))

abbrev pub decreases-loop-next : goal.decreases-loop-next
decreases-loop-next l = l.end + 1 - l.next
