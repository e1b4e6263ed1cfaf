-- `naming::pushes/push_all` meets its contract. Assumes nothing.
use native.Mathlib.Omega.{arith}
use Rattle.naming.proofs.Numbered as N
use Rattle.naming.proofs.pushes.push_all.Goals as goal

pub push_flagged-a-requires : goal.push_flagged-a-requires
push_flagged-a-requires c = let pre = c.requires in (pre.0, omega arith, omega arith, pre.1, pre.2)

pub push_flagged-b-requires : goal.push_flagged-b-requires
push_flagged-b-requires c =
    let n = c.requires.0 in let a = c.push_flagged-a.ensures in let b = a.3 in (n, omega arith, omega arith, a.5, a.4)

pub returns : goal.returns
returns c =
    let a = c.push_flagged-a.ensures in (N.both-flags _ _ _ _ _ _ _ _ a.0 a.1 a.2 c.push_flagged-b.ensures.0, c.push_flagged-b.ensures.5)
