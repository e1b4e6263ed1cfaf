-- What the loops of `places.note_places` keep. Assumes nothing.
use Prim.Native.Nat.{◌≤◌}
use Rattle.walking.proofs.Spotted as L
use Rattle.walking.proofs.places.note_places.Given as goal

abbrev pub invariant-loop-j : goal.invariant-loop-j
invariant-loop-j l = (l.j ≤ l.k) × L.Noting l.spots l.k l.initial.flags l.j l.flags
