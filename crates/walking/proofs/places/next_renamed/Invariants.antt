-- What the loops of `places.next_renamed` keep. Assumes nothing.
use Prim.Native.Nat.{◌≤◌}
use Rattle.walking.specs.bridge.Code.{Unmarked}
use Rattle.walking.proofs.places.next_renamed.Given as goal

abbrev pub invariant-loop-j : goal.invariant-loop-j
invariant-loop-j l = (l.i ≤ l.j) × (l.j ≤ l.k) × Unmarked l.spots l.i l.j
