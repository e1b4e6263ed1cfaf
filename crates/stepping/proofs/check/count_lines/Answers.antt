-- `stepping::check/count_lines` meets its contract. Assumes nothing.
use native.Mathlib.Omega.{arith}
use Rattle.stepping.proofs.Checks.{counts_start, counts-next, counts-done}
use Rattle.stepping.proofs.check.count_lines.Goals as goal

pub loop-at-init : goal.loop-at-init
loop-at-init c = counts_start _

pub overflow_add-n : goal.overflow_add-n
overflow_add-n c = let a = c.loop-at.invariant in omega (arith, a.0, a.1)

pub loop-at-smaller : goal.loop-at-smaller
loop-at-smaller c = omega (arith, c.find-at.ensures.low, c.loop-at-test.true)

pub loop-at-preserved : goal.loop-at-preserved
loop-at-preserved c = counts-next _ _ _ _ c.loop-at.invariant c.loop-at-test.true c.find-at.ensures

pub returns : goal.returns
returns c = counts-done _ _ _ c.loop-at.invariant c.loop-at-test.false
