-- `phrasing::fields/all_cells` meets its contract. Assumes nothing.
use native.Mathlib.Omega.{arith}
use Rattle.phrasing.proofs.Fielded as F
use mathlib.Core.Path.{refl, sym, ◌∙◌}
use Rattle.phrasing.proofs.fields.all_cells.Goals as goal

pub loop-next-init : goal.loop-next-init
loop-next-init c = (c.requires.1, refl)

pub field_at-field-requires : goal.field_at-field-requires
field_at-field-requires c = (c.requires.0, c.loop-next.invariant.0)

pub slice_bounds-is_allowed_cell-count : goal.slice_bounds-is_allowed_cell-count
slice_bounds-is_allowed_cell-count c =
    let i = c.field_at-field.ensures in let low = i.low in let high = i.high in let p = c.requires.0 in omega arith

pub slice_bounds-is_allowed_cell-start : goal.slice_bounds-is_allowed_cell-start
slice_bounds-is_allowed_cell-start c =
    let i = c.field_at-field.ensures in let low = i.low in let high = i.high in let p = c.requires.0 in omega arith

pub slice_bounds-is_allowed_cell-end : goal.slice_bounds-is_allowed_cell-end
slice_bounds-is_allowed_cell-end c =
    let i = c.field_at-field.ensures in let low = i.low in let high = i.high in let p = c.requires.0 in omega arith

pub returns-then-not-is_allowed_cell : goal.returns-then-not-is_allowed_cell
returns-then-not-is_allowed_cell c =
    F.cells-stop _ _ _ _ c.field_at-field.ensures _ c.loop-next-test.true c.is_allowed_cell.ensures c.if-not-is_allowed_cell.true-raw ∙ sym c.loop-next.invariant.1

pub loop-next-smaller : goal.loop-next-smaller
loop-next-smaller c =
    let i = c.field_at-field.ensures in let m = i.more c.loop-next-test.true in let l = i.last in omega arith

pub loop-next-preserved : goal.loop-next-preserved
loop-next-preserved c =
    (c.field_at-field.ensures.last, c.loop-next.invariant.1 ∙ F.cells-next _ _ _ _ c.field_at-field.ensures _ c.loop-next-test.true c.is_allowed_cell.ensures c.if-not-is_allowed_cell.false-raw)

pub returns : goal.returns
returns c = F.cells-done _ _ _ c.loop-next-test.false ∙ sym c.loop-next.invariant.1
