-- `spelling::fields/put_cells` meets its contract. Assumes nothing.
use borrow.Author.Rules.{rules}
use Rattle.spelling.proofs.Fielded as F
use mathlib.Core.Path.{refl, sym, ◌∙◌}
use native.Mathlib.Omega.{arith}
use Rattle.spelling.proofs.fields.put_cells.Goals as goal

pub loop-next-init : goal.loop-next-init
loop-next-init c = (refl, c.requires.1, refl)

pub field_at-field-requires : goal.field_at-field-requires
field_at-field-requires c = (c.requires.0, c.loop-next.invariant.1)

pub slice_bounds-put_cell-count : goal.slice_bounds-put_cell-count
slice_bounds-put_cell-count c =
    let i = c.field_at-field.ensures in let low = i.low in let high = i.high in let p = c.requires.0 in let t = c.loop-next-test.true in let u = i.is in omega arith

pub slice_bounds-put_cell-start : goal.slice_bounds-put_cell-start
slice_bounds-put_cell-start c =
    let i = c.field_at-field.ensures in let low = i.low in let high = i.high in let p = c.requires.0 in let t = c.loop-next-test.true in let u = i.is in omega arith

pub slice_bounds-put_cell-end : goal.slice_bounds-put_cell-end
slice_bounds-put_cell-end c =
    let i = c.field_at-field.ensures in let low = i.low in let high = i.high in let p = c.requires.0 in let t = c.loop-next-test.true in let u = i.is in omega arith

pub loop-next-smaller : goal.loop-next-smaller
loop-next-smaller c =
    let i = c.field_at-field.ensures in let m = i.more c.loop-next-test.true in let l = i.last in omega arith

pub loop-next-preserved : goal.loop-next-preserved
loop-next-preserved c =
    (search rules, c.field_at-field.ensures.last, F.cell-next _ _ _ _ c.field_at-field.ensures c.loop-next-test.true _ _ _ c.put-to.ensures c.put_cell-a.ensures ∙ c.loop-next.invariant.2)

pub returns : goal.returns
returns c = sym (F.cells-done _ _ _ c.loop-next-test.false _) ∙ c.loop-next.invariant.2
