-- What the loops of `fields.are_different` keep. Assumes nothing.
use Prim.Native.Nat.{◌+◌, ◌-◌, ◌≤◌}
use mathlib.Core.Path.{◌≡◌}
use Rattle.cursor.specs.bridge.Cursor.{left}
use Rattle.algebra.specs.Valid.{different}
use Rattle.phrasing.proofs.fields.are_different.Given as goal

abbrev pub invariant-loop-next : goal.invariant-loop-next
invariant-loop-next l = (l.next ≤ l.end + 1) × (different (left l.query l.from l.end) ≡ different (left l.query l.next l.end))

abbrev pub decreases-loop-next : goal.decreases-loop-next
decreases-loop-next l = l.end + 1 - l.next
