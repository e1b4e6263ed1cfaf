-- `naming::pushes/push_one` meets its contract. Assumes nothing.
use mathlib.Core.Path.{refl, ap, ◌∙◌}
use native.Mathlib.Omega.{arith}
use lib.ListN.{length}
use Rattle.naming.proofs.Numbered as N
use Rattle.naming.proofs.pushes.push_one.Goals as goal

pub returns-then-flag-eq0 : goal.returns-then-flag-eq0
returns-then-flag-eq0 c =
    let q = N.one_none _ _ c.if-flag-eq0.true in (N.pushes-none _ _ _ _ q, refl, omega (arith, ap length q), c.requires.2)

pub returns : goal.returns
returns c =
    let q = N.one-some _ _ c.if-flag-eq0.false in (c.push-m.ensures.0 ∙ N.pushes-one _ _ _ _ _ q, refl, omega (arith, ap length q), c.push-m.ensures.1)
