-- `spelling::seek/is_among` meets its contract. Assumes nothing.
use Rattle.spelling.proofs.Named as N
use native.Mathlib.Omega.{arith}
use mathlib.Core.Path.{refl, sym, ◌∙◌}
use Rattle.spelling.proofs.seek.is_among.Goals as goal

pub loop-next-init : goal.loop-next-init
loop-next-init c = (c.requires.1, refl)

pub field_at-field-requires : goal.field_at-field-requires
field_at-field-requires c = (c.requires.0, c.loop-next.invariant.0)

pub slice_bounds-equal-count : goal.slice_bounds-equal-count
slice_bounds-equal-count c =
    let i = c.field_at-field.ensures in let low = i.low in let high = i.high in let p = c.requires.0 in omega arith

pub slice_bounds-equal-start : goal.slice_bounds-equal-start
slice_bounds-equal-start c =
    let i = c.field_at-field.ensures in let low = i.low in let high = i.high in let p = c.requires.0 in omega arith

pub slice_bounds-equal-end : goal.slice_bounds-equal-end
slice_bounds-equal-end c =
    let i = c.field_at-field.ensures in let low = i.low in let high = i.high in let p = c.requires.0 in omega arith

pub returns-then-equal : goal.returns-then-equal
returns-then-equal c =
    N.among-here _ _ _ _ _ c.field_at-field.ensures _ c.equal.ensures c.loop-next-test.true c.if-equal.true ∙ sym c.loop-next.invariant.1

pub loop-next-smaller : goal.loop-next-smaller
loop-next-smaller c =
    let i = c.field_at-field.ensures in let m = i.more c.loop-next-test.true in let l = i.last in omega arith

pub loop-next-preserved : goal.loop-next-preserved
loop-next-preserved c =
    (c.field_at-field.ensures.last, c.loop-next.invariant.1 ∙ N.among_next _ _ _ _ _ c.field_at-field.ensures _ c.equal.ensures c.loop-next-test.true c.if-equal.false)

pub returns : goal.returns
returns c = N.among_none _ _ _ _ c.loop-next-test.false ∙ sym c.loop-next.invariant.1
