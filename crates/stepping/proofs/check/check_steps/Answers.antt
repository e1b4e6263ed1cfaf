-- `stepping::check/check_steps` meets its contract. Assumes nothing.
use Prim.Native.Nat.{ℕ}
use mathlib.Core.Path.{subst}
use native.Mathlib.Omega.{arith}
use Rattle.std.proofs.lemmas.Result.{err_from_is_err_and}
use Rattle.parted.specs.Parted.{texts}
use Rattle.reporting.specs.bridge.Turns.{steps_from}
use Rattle.stepping.specs.bridge.Checks.{StepsChecked}
use Rattle.stepping.proofs.Checks.{goes-refused, goes-next, steps-none}
use Rattle.stepping.proofs.check.check_steps.Goals as goal

pub loop-step-init : goal.loop-step-init
loop-step-init c r x = subst (λ (m : ℕ). StepsChecked (steps_from (texts c.args.input.now) 1 m) r) (omega arith) x

pub check_step-requires : goal.check_step-requires
check_step-requires c = (c.requires.0, omega (arith, c.requires.1, c.loop-step-test.true))

pub returns-in_err-check_step : goal.returns-in_err-check_step
returns-in_err-check_step c =
    let exit = err_from_is_err_and c.from_residual.result c.from_residual.ensures.1 in
    let s = c.check_step in
    rw (exit.1, exit.2) (goes-refused _ _ _ _ c.loop-step.invariant (omega (arith, c.loop-step-test.true)) s.result s.ensures _ c.in_err-check_step.was)

pub loop-step-preserved : goal.loop-step-preserved
loop-step-preserved c =
    let s = c.check_step in
    let t = c.loop-step-test.true in
    goes-next _ _ _ _ c.loop-step.invariant (omega (arith, t)) s.result s.ensures _ c.in_ok-check_step.was _ _ (omega (arith, t)) (omega (arith, t))

pub returns : goal.returns
returns c = c.loop-step.invariant _ (steps-none _ _ _ _ (omega (arith, c.loop-step-test.false)))
