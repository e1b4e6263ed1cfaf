-- `operators::line/put_ref` meets its contract. Assumes nothing.
use native.Mathlib.Omega.{arith}
use Rattle.names.specs.bridge.Names.{names_in}
use Rattle.operators.proofs.Headed as H
use Rattle.operators.proofs.line.put_ref.Goals as goal

pub field_at-field-requires : goal.field_at-field-requires
field_at-field-requires c = (c.requires.1, c.requires.2)

pub slice_bounds-position_of-count : goal.slice_bounds-position_of-count
slice_bounds-position_of-count c =
    let p = c.requires.1 in let g = c.field_at-field.ensures.low in let i = c.field_at-field.ensures.high in omega arith

pub slice_bounds-position_of-start : goal.slice_bounds-position_of-start
slice_bounds-position_of-start c =
    let p = c.requires.1 in let g = c.field_at-field.ensures.low in let i = c.field_at-field.ensures.high in omega arith

pub slice_bounds-position_of-end : goal.slice_bounds-position_of-end
slice_bounds-position_of-end c =
    let p = c.requires.1 in let g = c.field_at-field.ensures.low in let i = c.field_at-field.ensures.high in omega arith

pub returns : goal.returns
returns c =
    H.ref-put _ _ _ _ c.field_at-field.ensures (names_in c.args.tree.now c.args.columns.now c.args.n) _ c.position_of.ensures.0 _ c.column_at.ensures _ _ _ _ c.put_all.ensures c.put_all-2.ensures c.put.ensures
