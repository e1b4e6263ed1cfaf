-- What the loops of `check.has_many_lines` keep. Assumes nothing.
use Rattle.parted.specs.Parted.{texts}
use Rattle.stepping.proofs.Checks.{Sums}
use Rattle.stepping.proofs.check.has_many_lines.Given as goal

abbrev pub invariant-loop-k : goal.invariant-loop-k
invariant-loop-k l = Sums (texts l.input) l.total l.k
