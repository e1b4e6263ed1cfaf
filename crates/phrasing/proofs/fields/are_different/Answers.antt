-- `phrasing::fields/are_different` meets its contract. Assumes nothing.
use native.Mathlib.Omega.{arith}
use Rattle.phrasing.proofs.Fielded as F
use mathlib.Core.Path.{refl, sym, ◌∙◌}
use Rattle.phrasing.proofs.fields.are_different.Goals as goal

pub loop-next-init : goal.loop-next-init
loop-next-init c = (c.requires.1, refl)

pub field_at-field-requires : goal.field_at-field-requires
field_at-field-requires c = (c.requires.0, c.loop-next.invariant.0)

pub slice_bounds-is_among-count : goal.slice_bounds-is_among-count
slice_bounds-is_among-count c =
    let i = c.field_at-field.ensures in let low = i.low in let high = i.high in let p = c.requires.0 in omega arith

pub slice_bounds-is_among-start : goal.slice_bounds-is_among-start
slice_bounds-is_among-start c =
    let i = c.field_at-field.ensures in let low = i.low in let high = i.high in let p = c.requires.0 in omega arith

pub slice_bounds-is_among-end : goal.slice_bounds-is_among-end
slice_bounds-is_among-end c =
    let i = c.field_at-field.ensures in let low = i.low in let high = i.high in let p = c.requires.0 in omega arith

pub is_among-requires : goal.is_among-requires
is_among-requires c = (c.requires.0, c.field_at-field.ensures.last)

pub returns-then-is_among : goal.returns-then-is_among
returns-then-is_among c =
    F.different-stop _ _ _ _ c.field_at-field.ensures _ c.loop-next-test.true c.is_among.ensures c.if-is_among.true ∙ sym c.loop-next.invariant.1

pub loop-next-smaller : goal.loop-next-smaller
loop-next-smaller c =
    let i = c.field_at-field.ensures in let m = i.more c.loop-next-test.true in let l = i.last in omega arith

pub loop-next-preserved : goal.loop-next-preserved
loop-next-preserved c =
    (c.field_at-field.ensures.last, c.loop-next.invariant.1 ∙ F.different-next _ _ _ _ c.field_at-field.ensures _ c.loop-next-test.true c.is_among.ensures c.if-is_among.false)

pub returns : goal.returns
returns c = F.different-done _ _ _ c.loop-next-test.false ∙ sym c.loop-next.invariant.1
