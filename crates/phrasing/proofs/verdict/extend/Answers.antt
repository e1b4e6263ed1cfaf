-- `phrasing::verdict/extend` meets its contract. Assumes nothing.
use native.Mathlib.Omega.{arith}
use Rattle.phrasing.proofs.verdict.extend.Goals as goal

pub field_at-field-requires : goal.field_at-field-requires
field_at-field-requires c = c.requires.0

pub slice_bounds-v-count : goal.slice_bounds-v-count
slice_bounds-v-count c =
    let i = c.field_at-field.ensures in let low = i.low in let high = i.high in let p = c.requires.0.0 in omega arith

pub slice_bounds-v-start : goal.slice_bounds-v-start
slice_bounds-v-start c =
    let i = c.field_at-field.ensures in let low = i.low in let high = i.high in let p = c.requires.0.0 in omega arith

pub slice_bounds-v-end : goal.slice_bounds-v-end
slice_bounds-v-end c =
    let i = c.field_at-field.ensures in let low = i.low in let high = i.high in let p = c.requires.0.0 in omega arith

pub returns : goal.returns
returns c =
    let i = c.field_at-field.ensures.is in let f = c.seek_pattern-sought.ensures.found in cc
