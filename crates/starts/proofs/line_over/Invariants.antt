-- What the loops of `line_over` keep. Assumes nothing.
use Prim.Native.Nat.{◌-◌}
use Rattle.starts.proofs.Ordering as O
use Rattle.starts.proofs.line_over.Given as goal

abbrev pub invariant-loop-low : goal.invariant-loop-low
invariant-loop-low l = O.Between l.text l.keys l.n l.x l.low l.high × O.Untaken l.text l.keys l.x l.low

abbrev pub decreases-loop-low : goal.decreases-loop-low
decreases-loop-low l = l.high - l.low
