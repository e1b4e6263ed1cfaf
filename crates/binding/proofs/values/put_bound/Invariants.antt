-- What the loops of `values.put_bound` keep. Assumes nothing.
use Prim.Native.Nat.{◌+◌, ◌-◌, ◌≤◌}
use Rattle.cursor.specs.bridge.Cursor.{left as fieldsLeft}
use Rattle.emit.specs.bridge.Writer.{Left}
use Rattle.walking.specs.bridge.Walk.{tabbed}
use Rattle.names.specs.bridge.Names.{names_in}
use Rattle.binding.specs.bridge.Bound.{bound_from}
use Rattle.binding.proofs.values.put_bound.Given as goal

abbrev pub invariant-loop-next : goal.invariant-loop-next
invariant-loop-next l = (l.next ≤ l.end + 1) × Left l.initial.w l.w (tabbed (bound_from (names_in l.tree l.columns l.n) (fieldsLeft l.sets l.from l.end))) (tabbed (bound_from (names_in l.tree l.columns l.n) (fieldsLeft l.sets l.next l.end)))

abbrev pub decreases-loop-next : goal.decreases-loop-next
decreases-loop-next l = l.end + 1 - l.next
