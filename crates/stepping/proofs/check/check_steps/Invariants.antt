-- What the loops of `check.check_steps` keep. Assumes nothing.
use Prim.Native.Nat.{◌+◌, ◌-◌, ◌*◌}
use Rattle.parted.specs.Parted.{texts}
use Rattle.reporting.specs.bridge.Turns.{steps_from}
use Rattle.stepping.proofs.Checks.{Goes}
use Rattle.stepping.proofs.check.check_steps.Given as goal

abbrev pub invariant-loop-step : goal.invariant-loop-step
invariant-loop-step l = Goes (texts l.input) (4 * l.step + 1) (l.steps - l.step) (steps_from (texts l.input) 1 l.steps)
