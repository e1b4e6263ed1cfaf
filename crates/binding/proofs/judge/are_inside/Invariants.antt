-- What the loops of `judge.are_inside` keep. Assumes nothing.
use Prim.Native.Nat.{◌+◌, ◌-◌, ◌≤◌}
use mathlib.Core.Path.{◌≡◌}
use Rattle.cursor.specs.bridge.Cursor.{left as fieldsLeft}
use Rattle.binding.specs.bridge.Judged.{all_below}
use Rattle.binding.proofs.judge.are_inside.Given as goal

abbrev pub invariant-loop-next : goal.invariant-loop-next
invariant-loop-next l = (l.next ≤ l.end + 1) × (all_below l.width (fieldsLeft l.sets l.next l.end) ≡ all_below l.width (fieldsLeft l.sets l.from l.end))

abbrev pub decreases-loop-next : goal.decreases-loop-next
decreases-loop-next l = l.end + 1 - l.next
