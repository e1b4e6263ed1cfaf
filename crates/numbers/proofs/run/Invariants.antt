-- What the loop of `run` counts down. Assumes nothing.
use Rattle.std.specs.Prelude.{◌-◌}
use Rattle.numbers.proofs.run.Given as goal

abbrev pub decreases-loop-at : goal.decreases-loop-at
decreases-loop-at g l = 1099511627776 - l.at
