-- What the loops of `put_converted` keep. Assumes nothing.
use Prim.Native.Nat.{◌-◌}
use lib.ListN.{length}
use Rattle.starts.specs.bridge.Starts.{starts_in}
use Rattle.respelling.proofs.Turns as T
use Rattle.respelling.proofs.put_converted.Given as goal

abbrev pub invariant-loop-at : goal.invariant-loop-at
invariant-loop-at l = T.Below (starts_in l.table l.keys l.n) l.tree l.initial.put l.initial.w l.put l.w l.at

abbrev pub decreases-loop-at : goal.decreases-loop-at
decreases-loop-at l = length l.tree - l.at
