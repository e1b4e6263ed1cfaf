-- `phrasing::fields/blank_at` meets its contract. Assumes nothing.
use native.Mathlib.Omega.{arith}
use Rattle.phrasing.proofs.Fielded as F
use Rattle.text.specs.Field.{is_blank}
use Rattle.phrasing.proofs.fields.blank_at.Goals as goal

pub field_at-field-requires : goal.field_at-field-requires
field_at-field-requires c = c.requires

pub slice_bounds-is_blank-count : goal.slice_bounds-is_blank-count
slice_bounds-is_blank-count c =
    let i = c.field_at-field.ensures in let low = i.low in let high = i.high in let p = c.requires.0 in omega arith

pub slice_bounds-is_blank-start : goal.slice_bounds-is_blank-start
slice_bounds-is_blank-start c =
    let i = c.field_at-field.ensures in let low = i.low in let high = i.high in let p = c.requires.0 in omega arith

pub slice_bounds-is_blank-end : goal.slice_bounds-is_blank-end
slice_bounds-is_blank-end c =
    let i = c.field_at-field.ensures in let low = i.low in let high = i.high in let p = c.requires.0 in omega arith

pub returns : goal.returns
returns c = F.tested _ _ _ _ c.field_at-field.ensures _ is_blank c.is_blank.ensures
