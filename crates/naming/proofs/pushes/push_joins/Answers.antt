-- `naming::pushes/push_joins` meets its contract. Assumes nothing.
use mathlib.Core.Path.{◌∙◌}
use native.Mathlib.Omega.{arith}
use Rattle.naming.proofs.Numbered as N
use Rattle.naming.proofs.pushes.push_joins.Goals as goal

pub loop-i-init : goal.loop-i-init
loop-i-init c = (c.requires.0, omega arith, omega arith, N.joins-start _ _ _ _ _ _ _ _ _)

pub push-d-requires : goal.push-d-requires
push-d-requires c =
    let below = c.requires.2 c.loop-i.i c.loop-i-test.true in (omega (arith, below, c.wide-k.ensures.0), omega arith, c.loop-i.invariant.0, λ z. let q = c.loop-i.invariant.2 in omega arith)

pub loop-i-preserved : goal.loop-i-preserved
loop-i-preserved c =
    (c.push-d.ensures.1, omega arith, let q = c.loop-i.invariant.2 in omega (arith, q, N.push-few _ _ _ _ _ _ _ _ _ _ _ _ _ _ c.push-d.ensures.0), N.joins-next _ _ _ _ _ _ _ _ _ c.loop-i-test.true c.wide-k.ensures.0 c.push-d.ensures.0 ∙ c.loop-i.invariant.3)

pub returns : goal.returns
returns c = (N.joins-done _ _ _ _ _ _ _ c.loop-i-test.false ∙ c.loop-i.invariant.3, c.loop-i.invariant.0)
