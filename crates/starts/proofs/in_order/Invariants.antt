-- What the loops of `in_order` keep. Assumes nothing.
use Rattle.starts.proofs.Ordering as O
use Rattle.starts.proofs.in_order.Given as goal

abbrev pub invariant-loop-i : goal.invariant-loop-i
invariant-loop-i l = O.Left l.text l.keys l.n l.i
