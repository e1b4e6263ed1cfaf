-- What the loops of `judge.are_usable` keep. Assumes nothing.
use Prim.Native.Nat.{◌+◌, ◌-◌, ◌≤◌}
use mathlib.Core.Path.{◌≡◌}
use Rattle.cursor.specs.bridge.Cursor.{left as fieldsLeft}
use Rattle.filtering.specs.bridge.SetLines.{all_usable}
use Rattle.binding.proofs.judge.are_usable.Given as goal

abbrev pub invariant-loop-next : goal.invariant-loop-next
invariant-loop-next l = (l.next ≤ l.end + 1) × (all_usable (fieldsLeft l.sets l.next l.end) ≡ all_usable (fieldsLeft l.sets l.from l.end))

abbrev pub decreases-loop-next : goal.decreases-loop-next
decreases-loop-next l = l.end + 1 - l.next
