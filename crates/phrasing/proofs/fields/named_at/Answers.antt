-- `phrasing::fields/named_at` meets its contract. Assumes nothing.
use native.Mathlib.Omega.{arith}
use Rattle.phrasing.proofs.Fielded as F
use Rattle.editions.specs.Lexical.{is_var1}
use Rattle.phrasing.proofs.fields.named_at.Goals as goal

pub field_at-field-requires : goal.field_at-field-requires
field_at-field-requires c = c.requires

pub slice_bounds-is_var1-count : goal.slice_bounds-is_var1-count
slice_bounds-is_var1-count c =
    let i = c.field_at-field.ensures in let low = i.low in let high = i.high in let p = c.requires.0 in omega arith

pub slice_bounds-is_var1-start : goal.slice_bounds-is_var1-start
slice_bounds-is_var1-start c =
    let i = c.field_at-field.ensures in let low = i.low in let high = i.high in let p = c.requires.0 in omega arith

pub slice_bounds-is_var1-end : goal.slice_bounds-is_var1-end
slice_bounds-is_var1-end c =
    let i = c.field_at-field.ensures in let low = i.low in let high = i.high in let p = c.requires.0 in omega arith

pub returns : goal.returns
returns c = F.tested _ _ _ _ c.field_at-field.ensures _ is_var1 c.is_var1.ensures
