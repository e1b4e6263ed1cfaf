-- What the loops of `fields.put_cells` keep. Assumes nothing.
use Prim.Native.Nat.{◌+◌, ◌-◌, ◌≤◌}
use mathlib.Core.Path.{◌≡◌}
use mathlib.Core.List.{[]}
use lib.ListN.{length}
use Rattle.cursor.specs.bridge.Cursor.{left}
use Rattle.emit.specs.bridge.Emit.{em, puts}
use Rattle.editions.specs.Token.{text}
use Rattle.editions.specs.Spelling.{spell_cells}
use Rattle.spelling.proofs.fields.put_cells.Given as goal

abbrev pub invariant-loop-next : goal.invariant-loop-next
invariant-loop-next l = (length l.out ≡ length l.initial.out) × (l.next ≤ l.end + 1) × (puts (text (spell_cells (left l.query l.next l.end) [])) (em l.to l.out) ≡ puts (text (spell_cells (left l.query l.from l.end) [])) (em l.at l.initial.out))

abbrev pub decreases-loop-next : goal.decreases-loop-next
decreases-loop-next l = l.end + 1 - l.next
