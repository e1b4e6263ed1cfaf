-- What the loops of `seek.is_among` keep. Assumes nothing.
use Prim.Native.Nat.{◌+◌, ◌-◌, ◌≤◌}
use mathlib.Core.Path.{◌≡◌}
use Rattle.algebra.specs.Valid.{mem}
use Rattle.cursor.specs.bridge.Cursor.{left}
use Rattle.spelling.proofs.seek.is_among.Given as goal

abbrev pub invariant-loop-next : goal.invariant-loop-next
invariant-loop-next l = (l.next ≤ l.end + 1) × (mem l.v (left l.query l.from l.end) ≡ mem l.v (left l.query l.next l.end))

abbrev pub decreases-loop-next : goal.decreases-loop-next
decreases-loop-next l = l.end + 1 - l.next
