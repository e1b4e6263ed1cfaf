-- `spelling::fields/put_between` meets its contract. Assumes nothing.
use Rattle.spelling.proofs.Fielded as F
use native.Mathlib.Omega.{arith}
use Rattle.spelling.proofs.fields.put_between.Goals as goal

pub field_at-field-requires : goal.field_at-field-requires
field_at-field-requires c = c.requires

pub slice_bounds-put_all-count : goal.slice_bounds-put_all-count
slice_bounds-put_all-count c =
    let i = c.field_at-field.ensures in let low = i.low in let high = i.high in let p = c.requires.0 in omega arith

pub slice_bounds-put_all-start : goal.slice_bounds-put_all-start
slice_bounds-put_all-start c =
    let i = c.field_at-field.ensures in let low = i.low in let high = i.high in let p = c.requires.0 in omega arith

pub slice_bounds-put_all-end : goal.slice_bounds-put_all-end
slice_bounds-put_all-end c =
    let i = c.field_at-field.ensures in let low = i.low in let high = i.high in let p = c.requires.0 in omega arith

pub returns : goal.returns
returns c =
    F.between _ _ _ _ c.field_at-field.ensures _ _ _ _ _ _ c.put_all-a.ensures c.put_all-b.ensures c.put_all.ensures
