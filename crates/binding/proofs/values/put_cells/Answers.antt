-- `binding::values/put_cells` meets its contract. Assumes nothing.
use native.Mathlib.Omega.{arith}
use Rattle.emit.proofs.Writing.{wrote-then, left-all, left-as, left-next, left-none}
use Rattle.binding.proofs.Valued as Vd
use Rattle.binding.proofs.values.put_cells.Goals as goal

pub loop-next-init : goal.loop-next-init
loop-next-init c = (c.requires.1, left-all _)

pub field_at-domain-requires : goal.field_at-domain-requires
field_at-domain-requires c = (c.requires.0, c.loop-next.invariant.0)

pub field_at-lexical-requires : goal.field_at-lexical-requires
field_at-lexical-requires c = (c.requires.0, c.field_at-domain.ensures.last)

pub field_at-extra-requires : goal.field_at-extra-requires
field_at-extra-requires c = (c.requires.0, c.field_at-lexical.ensures.last)

pub slice_bounds-form_of-count : goal.slice_bounds-form_of-count
slice_bounds-form_of-count c =
    let h = c.field_at-domain.ensures.last in let a = c.field_at-lexical.ensures.last in let b = c.field_at-extra.ensures.last in let m = c.field_at-lexical.ensures.low in let d2 = c.field_at-lexical.ensures.after in let e2 = c.field_at-extra.ensures.low in let f2 = c.field_at-extra.ensures.after in let u = c.field_at-domain.ensures.more c.loop-next-test.true in let g = c.field_at-domain.ensures.low in let i = c.field_at-domain.ensures.after in let p = c.requires.0 in let q = c.field_at-domain.ensures.high in let r = c.field_at-lexical.ensures.high in let t = c.field_at-extra.ensures.high in omega arith

pub slice_bounds-form_of-start : goal.slice_bounds-form_of-start
slice_bounds-form_of-start c =
    let h = c.field_at-domain.ensures.last in let a = c.field_at-lexical.ensures.last in let b = c.field_at-extra.ensures.last in let m = c.field_at-lexical.ensures.low in let d2 = c.field_at-lexical.ensures.after in let e2 = c.field_at-extra.ensures.low in let f2 = c.field_at-extra.ensures.after in let u = c.field_at-domain.ensures.more c.loop-next-test.true in let g = c.field_at-domain.ensures.low in let i = c.field_at-domain.ensures.after in let p = c.requires.0 in let q = c.field_at-domain.ensures.high in let r = c.field_at-lexical.ensures.high in let t = c.field_at-extra.ensures.high in omega arith

pub slice_bounds-form_of-end : goal.slice_bounds-form_of-end
slice_bounds-form_of-end c =
    let h = c.field_at-domain.ensures.last in let a = c.field_at-lexical.ensures.last in let b = c.field_at-extra.ensures.last in let m = c.field_at-lexical.ensures.low in let d2 = c.field_at-lexical.ensures.after in let e2 = c.field_at-extra.ensures.low in let f2 = c.field_at-extra.ensures.after in let u = c.field_at-domain.ensures.more c.loop-next-test.true in let g = c.field_at-domain.ensures.low in let i = c.field_at-domain.ensures.after in let p = c.requires.0 in let q = c.field_at-domain.ensures.high in let r = c.field_at-lexical.ensures.high in let t = c.field_at-extra.ensures.high in omega arith

pub slice_bounds-put_term-count : goal.slice_bounds-put_term-count
slice_bounds-put_term-count c =
    let h = c.field_at-domain.ensures.last in let a = c.field_at-lexical.ensures.last in let b = c.field_at-extra.ensures.last in let m = c.field_at-lexical.ensures.low in let d2 = c.field_at-lexical.ensures.after in let e2 = c.field_at-extra.ensures.low in let f2 = c.field_at-extra.ensures.after in let u = c.field_at-domain.ensures.more c.loop-next-test.true in let g = c.field_at-domain.ensures.low in let i = c.field_at-domain.ensures.after in let p = c.requires.0 in let q = c.field_at-domain.ensures.high in let r = c.field_at-lexical.ensures.high in let t = c.field_at-extra.ensures.high in omega arith

pub slice_bounds-put_term-start : goal.slice_bounds-put_term-start
slice_bounds-put_term-start c =
    let h = c.field_at-domain.ensures.last in let a = c.field_at-lexical.ensures.last in let b = c.field_at-extra.ensures.last in let m = c.field_at-lexical.ensures.low in let d2 = c.field_at-lexical.ensures.after in let e2 = c.field_at-extra.ensures.low in let f2 = c.field_at-extra.ensures.after in let u = c.field_at-domain.ensures.more c.loop-next-test.true in let g = c.field_at-domain.ensures.low in let i = c.field_at-domain.ensures.after in let p = c.requires.0 in let q = c.field_at-domain.ensures.high in let r = c.field_at-lexical.ensures.high in let t = c.field_at-extra.ensures.high in omega arith

pub slice_bounds-put_term-end : goal.slice_bounds-put_term-end
slice_bounds-put_term-end c =
    let h = c.field_at-domain.ensures.last in let a = c.field_at-lexical.ensures.last in let b = c.field_at-extra.ensures.last in let m = c.field_at-lexical.ensures.low in let d2 = c.field_at-lexical.ensures.after in let e2 = c.field_at-extra.ensures.low in let f2 = c.field_at-extra.ensures.after in let u = c.field_at-domain.ensures.more c.loop-next-test.true in let g = c.field_at-domain.ensures.low in let i = c.field_at-domain.ensures.after in let p = c.requires.0 in let q = c.field_at-domain.ensures.high in let r = c.field_at-lexical.ensures.high in let t = c.field_at-extra.ensures.high in omega arith

pub slice_bounds-put_term-count-in-loop-next : goal.slice_bounds-put_term-count-in-loop-next
slice_bounds-put_term-count-in-loop-next c =
    let h = c.field_at-domain.ensures.last in let a = c.field_at-lexical.ensures.last in let b = c.field_at-extra.ensures.last in let m = c.field_at-lexical.ensures.low in let d2 = c.field_at-lexical.ensures.after in let e2 = c.field_at-extra.ensures.low in let f2 = c.field_at-extra.ensures.after in let u = c.field_at-domain.ensures.more c.loop-next-test.true in let g = c.field_at-domain.ensures.low in let i = c.field_at-domain.ensures.after in let p = c.requires.0 in let q = c.field_at-domain.ensures.high in let r = c.field_at-lexical.ensures.high in let t = c.field_at-extra.ensures.high in omega arith

pub slice_bounds-put_term-start-in-loop-next : goal.slice_bounds-put_term-start-in-loop-next
slice_bounds-put_term-start-in-loop-next c =
    let h = c.field_at-domain.ensures.last in let a = c.field_at-lexical.ensures.last in let b = c.field_at-extra.ensures.last in let m = c.field_at-lexical.ensures.low in let d2 = c.field_at-lexical.ensures.after in let e2 = c.field_at-extra.ensures.low in let f2 = c.field_at-extra.ensures.after in let u = c.field_at-domain.ensures.more c.loop-next-test.true in let g = c.field_at-domain.ensures.low in let i = c.field_at-domain.ensures.after in let p = c.requires.0 in let q = c.field_at-domain.ensures.high in let r = c.field_at-lexical.ensures.high in let t = c.field_at-extra.ensures.high in omega arith

pub slice_bounds-put_term-end-in-loop-next : goal.slice_bounds-put_term-end-in-loop-next
slice_bounds-put_term-end-in-loop-next c =
    let h = c.field_at-domain.ensures.last in let a = c.field_at-lexical.ensures.last in let b = c.field_at-extra.ensures.last in let m = c.field_at-lexical.ensures.low in let d2 = c.field_at-lexical.ensures.after in let e2 = c.field_at-extra.ensures.low in let f2 = c.field_at-extra.ensures.after in let u = c.field_at-domain.ensures.more c.loop-next-test.true in let g = c.field_at-domain.ensures.low in let i = c.field_at-domain.ensures.after in let p = c.requires.0 in let q = c.field_at-domain.ensures.high in let r = c.field_at-lexical.ensures.high in let t = c.field_at-extra.ensures.high in omega arith

pub loop-next-smaller : goal.loop-next-smaller
loop-next-smaller c =
    let h = c.field_at-domain.ensures.last in let a = c.field_at-lexical.ensures.last in let b = c.field_at-extra.ensures.last in let m = c.field_at-lexical.ensures.low in let d2 = c.field_at-lexical.ensures.after in let e2 = c.field_at-extra.ensures.low in let f2 = c.field_at-extra.ensures.after in let u = c.field_at-domain.ensures.more c.loop-next-test.true in let g = c.field_at-domain.ensures.low in let i = c.field_at-domain.ensures.after in let p = c.requires.0 in let q = c.field_at-domain.ensures.high in let r = c.field_at-lexical.ensures.high in let t = c.field_at-extra.ensures.high in omega arith

pub loop-next-preserved : goal.loop-next-preserved
loop-next-preserved c =
    (c.field_at-extra.ensures.last, left-next (left-as (Vd.cells-next _ _ _ c.loop-next-test.true _ _ _ c.field_at-domain.ensures c.field_at-lexical.ensures c.field_at-extra.ensures _ c.form_of.ensures) c.loop-next.invariant.1) (wrote-then c.put.ensures c.put_term.ensures))

pub returns : goal.returns
returns c = left-none (left-as (Vd.cells-done _ _ _ c.loop-next-test.false) c.loop-next.invariant.1)
