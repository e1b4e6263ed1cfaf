-- `binding::judge/are_inside` meets its contract. Assumes nothing.
use mathlib.Core.Path.{refl, ◌∙◌}
use native.Mathlib.Omega.{arith}
use Rattle.binding.proofs.Judging as J
use Rattle.binding.proofs.judge.are_inside.Goals as goal

pub loop-next-init : goal.loop-next-init
loop-next-init c = (c.requires.1, refl)

pub slice_bounds-position_of-count : goal.slice_bounds-position_of-count
slice_bounds-position_of-count c =
    let h = c.field_at-field.ensures.high in let w = c.field_at-field.ensures.low in let v = c.field_at-field.ensures.last in let u = c.field_at-field.ensures.more c.loop-next-test.true in let z = c.field_at-field.ensures.after in omega arith

pub slice_bounds-position_of-start : goal.slice_bounds-position_of-start
slice_bounds-position_of-start c =
    let h = c.field_at-field.ensures.high in let w = c.field_at-field.ensures.low in let v = c.field_at-field.ensures.last in let u = c.field_at-field.ensures.more c.loop-next-test.true in let z = c.field_at-field.ensures.after in omega arith

pub slice_bounds-position_of-end : goal.slice_bounds-position_of-end
slice_bounds-position_of-end c =
    let h = c.field_at-field.ensures.high in let w = c.field_at-field.ensures.low in let v = c.field_at-field.ensures.last in let u = c.field_at-field.ensures.more c.loop-next-test.true in let z = c.field_at-field.ensures.after in omega arith

pub returns-then-width-position_of : goal.returns-then-width-position_of
returns-then-width-position_of c =
    J.below-stop _ _ _ _ c.loop-next-test.true _ c.field_at-field.ensures _ c.position_of.ensures.0 c.if-width-position_of.true ∙ c.loop-next.invariant.1

pub loop-next-smaller : goal.loop-next-smaller
loop-next-smaller c =
    let h = c.field_at-field.ensures.high in let w = c.field_at-field.ensures.low in let v = c.field_at-field.ensures.last in let u = c.field_at-field.ensures.more c.loop-next-test.true in let z = c.field_at-field.ensures.after in omega arith

pub loop-next-preserved : goal.loop-next-preserved
loop-next-preserved c =
    (c.field_at-field.ensures.last, J.below_next _ _ _ _ c.loop-next-test.true _ c.field_at-field.ensures _ c.position_of.ensures.0 c.if-width-position_of.false ∙ c.loop-next.invariant.1)

pub returns : goal.returns
returns c = J.below-done _ _ _ _ c.loop-next-test.false ∙ c.loop-next.invariant.1
