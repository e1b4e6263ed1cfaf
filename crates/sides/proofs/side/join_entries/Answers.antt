-- `sides::side/join_entries` meets its contract. Assumes nothing.
use native.Mathlib.Omega.{arith}
use lib.ListN.{length-set}
use Rattle.sides.proofs.Entries as N
use Rattle.sides.proofs.side.join_entries.Goals as goal

pub loop-i-init : goal.loop-i-init
loop-i-init c = (c.requires.1, omega arith, λ k h. absurd (omega arith))

pub offset_bounds-spots-wide : goal.offset_bounds-spots-wide
offset_bounds-spots-wide c =
    let q = c.requires.2 c.loop-i.i c.loop-i-test.true in let w = c.wide.ensures in let g = c.well_formed in omega (arith, g)

pub bounds-spots-wide : goal.bounds-spots-wide
bounds-spots-wide c = let q = c.requires.2 c.loop-i.i c.loop-i-test.true in let w = c.wide.ensures in omega arith

pub bounds-joins-i : goal.bounds-joins-i
bounds-joins-i c = let d = c.loop-i.invariant.0 in let t = c.loop-i-test.true in let p = c.requires.0 in omega arith

pub loop-i-preserved : goal.loop-i-preserved
loop-i-preserved c =
    let d = c.loop-i.invariant.0 in let t = c.loop-i-test.true in let p = c.requires.0 in (simp length-set d, omega arith, N.joins-next c.args.spots.now c.args.at.now c.loop-i.joins c.loop-i.i _ (omega arith) c.wide.ensures c.loop-i.invariant.2)

pub returns : goal.returns
returns c = (c.loop-i.invariant.0, λ k h. let t = c.loop-i-test.false in c.loop-i.invariant.2 k (omega arith))
