-- What the loops of `copy` keep. Assumes nothing.
use mathlib.Core.Path.{◌≡◌}
use Prim.Native.Nat.{◌+◌, ◌≤◌}
use lib.ListN.{length, drop}
use lib.Seq.{sets}
use Rattle.emit.proofs.copy.Given as goal

abbrev pub invariant-loop-i : goal.invariant-loop-i
invariant-loop-i l = (l.i ≤ length l.piece) × (length l.out ≡ length l.initial.out) × (sets l.out (l.at + l.i) (drop l.i l.piece) ≡ sets l.initial.out l.at l.piece)
