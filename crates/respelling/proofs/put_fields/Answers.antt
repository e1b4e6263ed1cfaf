-- `respelling::put_fields` meets its contract. Assumes nothing.
use native.Mathlib.Omega.{arith}
use Rattle.respelling.proofs.Turns as T
use Rattle.respelling.proofs.put_fields.Goals as goal

pub loop-at-init : goal.loop-at-init
loop-at-init c = T.going_start _ _ _ _ _ _ _ c.requires.0 c.requires.1 c.requires.3

pub field_end-to-requires : goal.field_end-to-requires
field_end-to-requires c = let h = c.requires.2 in let t = c.loop-at-test.true in (omega arith, omega arith)

pub put_field-put-requires : goal.put_field-put-requires
put_field-put-requires c =
    let f = c.field_end-to.ensures in let l = f.low in let h = f.high in let low = c.loop-at.invariant.low in let p = c.requires.2 in (omega arith, f.low, omega arith, c.requires.4)

pub overflow_add-i : goal.overflow_add-i
overflow_add-i c =
    let few = c.loop-at.invariant.few in let h = c.loop-at.invariant.here in let p = c.requires.2 in omega (arith, c.loop-at-test.true)

pub loop-at-smaller : goal.loop-at-smaller
loop-at-smaller c =
    let f = c.field_end-to.ensures in let l = f.low in let h = f.high in omega (arith, c.loop-at-test.true)

pub loop-at-preserved : goal.loop-at-preserved
loop-at-preserved c =
    T.going_next _ _ _ _ _ _ _ _ _ _ _ c.loop-at.invariant c.requires.2 c.loop-at-test.true _ c.field_end-to.ensures _ _ c.put_field-put.ensures.0 c.put_field-put.ensures.1

pub returns : goal.returns
returns c = T.going_end _ _ _ _ _ _ _ _ _ _ _ c.loop-at.invariant c.requires.2 c.loop-at-test.false
