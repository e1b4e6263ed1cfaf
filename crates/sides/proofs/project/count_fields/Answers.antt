-- `sides::project/count_fields` meets its contract. Assumes nothing.
use native.Mathlib.Nat.{zero-add}
use native.Mathlib.Omega.{arith}
use Rattle.sides.proofs.Sides as G
use Rattle.sides.proofs.project.count_fields.Goals as goal

pub loop-next-init : goal.loop-next-init
loop-next-init c = (zero-add _, omega arith)

pub overflow_add-next : goal.overflow_add-next
overflow_add-next c = let h = c.field_end-next.ensures.high in let p = c.requires in omega arith

pub overflow_add-c : goal.overflow_add-c
overflow_add-c c =
    let t = c.loop-next-test.true in let i = c.loop-next.invariant.1 in let p = c.requires in omega arith

pub loop-next-smaller : goal.loop-next-smaller
loop-next-smaller c = let l = c.field_end-next.ensures.low in let t = c.loop-next-test.true in omega arith

pub loop-next-preserved : goal.loop-next-preserved
loop-next-preserved c =
    let m = G.left-more _ _ _ _ c.requires c.loop-next-test.true c.field_end-next.ensures in let a = c.loop-next.invariant.0 in let i = c.loop-next.invariant.1 in let l = c.field_end-next.ensures.low in (omega arith, omega arith)

pub returns : goal.returns
returns c = G.left_end _ _ _ _ _ c.loop-next-test.false c.loop-next.invariant.0
