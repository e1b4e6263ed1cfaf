-- `spelling::fields/put_variables` meets its contract. Assumes nothing.
use borrow.Author.Rules.{rules}
use Rattle.spelling.proofs.Fielded as F
use mathlib.Core.Path.{refl, sym, ◌∙◌}
use native.Mathlib.Omega.{arith}
use Rattle.spelling.proofs.fields.put_variables.Goals as goal

pub loop-next-init : goal.loop-next-init
loop-next-init c = (refl, c.requires.1, refl)

pub field_at-field-requires : goal.field_at-field-requires
field_at-field-requires c = (c.requires.0, c.loop-next.invariant.1)

pub slice_bounds-put_all-count : goal.slice_bounds-put_all-count
slice_bounds-put_all-count c =
    let i = c.field_at-field.ensures in let low = i.low in let high = i.high in let p = c.requires.0 in let t = c.loop-next-test.true in let u = i.is in omega arith

pub slice_bounds-put_all-start : goal.slice_bounds-put_all-start
slice_bounds-put_all-start c =
    let i = c.field_at-field.ensures in let low = i.low in let high = i.high in let p = c.requires.0 in let t = c.loop-next-test.true in let u = i.is in omega arith

pub slice_bounds-put_all-end : goal.slice_bounds-put_all-end
slice_bounds-put_all-end c =
    let i = c.field_at-field.ensures in let low = i.low in let high = i.high in let p = c.requires.0 in let t = c.loop-next-test.true in let u = i.is in omega arith

pub loop-next-smaller : goal.loop-next-smaller
loop-next-smaller c =
    let i = c.field_at-field.ensures in let m = i.more c.loop-next-test.true in let l = i.last in omega arith

pub loop-next-preserved : goal.loop-next-preserved
loop-next-preserved c =
    (search rules, c.field_at-field.ensures.last, F.variable-next _ _ _ _ c.field_at-field.ensures c.loop-next-test.true _ _ _ c.put-to.ensures c.put_all-a.ensures ∙ c.loop-next.invariant.2)

pub returns : goal.returns
returns c = sym (F.variables-done _ _ _ c.loop-next-test.false _) ∙ c.loop-next.invariant.2
