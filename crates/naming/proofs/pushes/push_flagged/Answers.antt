-- `naming::pushes/push_flagged` meets its contract. Assumes nothing.
use mathlib.Core.Path.{refl, ◌∙◌}
use native.Mathlib.Omega.{arith}
use Rattle.naming.proofs.Numbered as N
use Rattle.naming.proofs.pushes.push_flagged.Goals as goal

pub loop-k-init : goal.loop-k-init
loop-k-init c = (c.requires.3, refl, N.flags-start _ _ _ _ _ _ _ _ _ c.requires.4)

pub push_one-p-requires : goal.push_one-p-requires
push_one-p-requires c =
    let t = c.loop-k-test.true in let to = c.loop-k.invariant.2 in let few = c.requires.0 in (omega arith, let f = to.few in let q = c.requires.2 in omega arith, c.loop-k.invariant.0, N.flag-room _ _ _ _ _ _ _ _ _ _ t few to.room)

pub loop-k-preserved : goal.loop-k-preserved
loop-k-preserved c =
    (c.push_one-p.ensures.3, c.push_one-p.ensures.1 ∙ c.loop-k.invariant.1, N.flags-next _ _ _ _ _ _ _ _ _ _ _ _ c.loop-k.invariant.2 _ _ _ c.loop-k-test.true c.loop-k.invariant.1 c.push_one-p.ensures.0 c.push_one-p.ensures.2)

pub returns : goal.returns
returns c =
    let d = N.flags-done _ _ _ _ _ _ _ _ _ _ _ _ c.loop-k.invariant.2 c.loop-k-test.false in (d.0, c.loop-k.invariant.1, d.1, d.2, d.3, c.loop-k.invariant.0)
