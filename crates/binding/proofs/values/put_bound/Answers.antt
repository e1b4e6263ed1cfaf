-- `binding::values/put_bound` meets its contract. Assumes nothing.
use native.Mathlib.Omega.{arith}
use Rattle.names.specs.bridge.Names.{names_in}
use Rattle.emit.proofs.Writing.{wrote-then, left-all, left-as, left-next, left-none}
use Rattle.binding.proofs.Valued as Vd
use Rattle.binding.proofs.values.put_bound.Goals as goal

pub loop-next-init : goal.loop-next-init
loop-next-init c = (c.requires.2, left-all _)

pub field_at-field-requires : goal.field_at-field-requires
field_at-field-requires c = (c.requires.1, c.loop-next.invariant.0)

pub slice_bounds-position_of-count : goal.slice_bounds-position_of-count
slice_bounds-position_of-count c =
    let h = c.field_at-field.ensures.high in let w = c.field_at-field.ensures.low in let v = c.field_at-field.ensures.last in let u = c.field_at-field.ensures.more c.loop-next-test.true in let z = c.field_at-field.ensures.after in omega arith

pub slice_bounds-position_of-start : goal.slice_bounds-position_of-start
slice_bounds-position_of-start c =
    let h = c.field_at-field.ensures.high in let w = c.field_at-field.ensures.low in let v = c.field_at-field.ensures.last in let u = c.field_at-field.ensures.more c.loop-next-test.true in let z = c.field_at-field.ensures.after in omega arith

pub slice_bounds-position_of-end : goal.slice_bounds-position_of-end
slice_bounds-position_of-end c =
    let h = c.field_at-field.ensures.high in let w = c.field_at-field.ensures.low in let v = c.field_at-field.ensures.last in let u = c.field_at-field.ensures.more c.loop-next-test.true in let z = c.field_at-field.ensures.after in omega arith

pub loop-next-smaller : goal.loop-next-smaller
loop-next-smaller c =
    let h = c.field_at-field.ensures.high in let w = c.field_at-field.ensures.low in let v = c.field_at-field.ensures.last in let u = c.field_at-field.ensures.more c.loop-next-test.true in let z = c.field_at-field.ensures.after in omega arith

pub loop-next-preserved : goal.loop-next-preserved
loop-next-preserved c =
    (c.field_at-field.ensures.last, left-next (left-as (Vd.bound-next (names_in c.args.tree.now c.args.columns.now c.args.n) _ _ _ c.loop-next-test.true _ c.field_at-field.ensures _ c.position_of.ensures.0 _ c.column_at.ensures) c.loop-next.invariant.1) (wrote-then c.put.ensures c.put_all.ensures))

pub returns : goal.returns
returns c =
    left-none (left-as (Vd.bound-done (names_in c.args.tree.now c.args.columns.now c.args.n) _ _ _ c.loop-next-test.false) c.loop-next.invariant.1)
