-- What the loops of `put_each` keep. Assumes nothing.
use mathlib.Core.Path.{◌≡◌}
use Prim.Native.Nat.{◌≤◌}
use lib.ListN.{length, drop}
use Rattle.emit.specs.bridge.Emit.{em, puts}
use Rattle.emit.proofs.put_each.Given as goal

abbrev pub invariant-loop-i : goal.invariant-loop-i
invariant-loop-i l = (l.i ≤ length l.piece) × (length l.out ≡ length l.initial.out) × (puts (drop l.i l.piece) (em l.to l.out) ≡ puts l.piece (em l.initial.to l.initial.out))
