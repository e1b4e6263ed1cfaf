-- What the loops of `put_fields` keep. Assumes nothing.
use Prim.Native.Nat.{◌-◌}
use Rattle.starts.specs.bridge.Starts.{starts_in}
use Rattle.respelling.proofs.Turns as T
use Rattle.respelling.proofs.put_fields.Given as goal

abbrev pub invariant-loop-at : goal.invariant-loop-at
invariant-loop-at l = T.Going (starts_in l.table l.keys l.n) l.tree l.from l.end l.key l.initial.put l.initial.w l.put l.w l.at l.i

abbrev pub decreases-loop-at : goal.decreases-loop-at
decreases-loop-at l = l.end - l.at
