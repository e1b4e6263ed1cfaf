-- `phrasing::fields/allowed_at` meets its contract. Assumes nothing.
use native.Mathlib.Omega.{arith}
use Rattle.phrasing.proofs.Fielded as F
use Rattle.editions.specs.Refusals.{allowed}
use Rattle.phrasing.proofs.fields.allowed_at.Goals as goal

pub field_at-field-requires : goal.field_at-field-requires
field_at-field-requires c = c.requires

pub slice_bounds-is_allowed-count : goal.slice_bounds-is_allowed-count
slice_bounds-is_allowed-count c =
    let i = c.field_at-field.ensures in let low = i.low in let high = i.high in let p = c.requires.0 in omega arith

pub slice_bounds-is_allowed-start : goal.slice_bounds-is_allowed-start
slice_bounds-is_allowed-start c =
    let i = c.field_at-field.ensures in let low = i.low in let high = i.high in let p = c.requires.0 in omega arith

pub slice_bounds-is_allowed-end : goal.slice_bounds-is_allowed-end
slice_bounds-is_allowed-end c =
    let i = c.field_at-field.ensures in let low = i.low in let high = i.high in let p = c.requires.0 in omega arith

pub returns : goal.returns
returns c = F.tested _ _ _ _ c.field_at-field.ensures _ allowed c.is_allowed.ensures
