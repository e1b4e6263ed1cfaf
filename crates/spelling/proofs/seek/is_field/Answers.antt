-- `spelling::seek/is_field` meets its contract. Assumes nothing.
use Rattle.spelling.proofs.Named as N
use native.Mathlib.Omega.{arith}
use Rattle.spelling.proofs.seek.is_field.Goals as goal

pub field_at-field-requires : goal.field_at-field-requires
field_at-field-requires c = c.requires

pub slice_bounds-equal-count : goal.slice_bounds-equal-count
slice_bounds-equal-count c =
    let i = c.field_at-field.ensures in let low = i.low in let high = i.high in let p = c.requires.0 in omega arith

pub slice_bounds-equal-start : goal.slice_bounds-equal-start
slice_bounds-equal-start c =
    let i = c.field_at-field.ensures in let low = i.low in let high = i.high in let p = c.requires.0 in omega arith

pub slice_bounds-equal-end : goal.slice_bounds-equal-end
slice_bounds-equal-end c =
    let i = c.field_at-field.ensures in let low = i.low in let high = i.high in let p = c.requires.0 in omega arith

pub returns : goal.returns
returns c = N.field_is _ _ _ _ _ c.field_at-field.ensures _ c.equal.ensures
