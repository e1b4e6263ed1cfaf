-- `operators::line/put_leaf` meets its contract. Assumes nothing.
use native.Mathlib.Omega.{arith}
use Rattle.operators.proofs.Headed as H
use Rattle.operators.proofs.line.put_leaf.Goals as goal

pub slice_bounds-form_of-count : goal.slice_bounds-form_of-count
slice_bounds-form_of-count c =
    let p = c.requires.0 in let g = c.field_at-domain.ensures.low in let i = c.field_at-domain.ensures.high in omega arith

pub slice_bounds-form_of-start : goal.slice_bounds-form_of-start
slice_bounds-form_of-start c =
    let p = c.requires.0 in let g = c.field_at-domain.ensures.low in let i = c.field_at-domain.ensures.high in omega arith

pub slice_bounds-form_of-end : goal.slice_bounds-form_of-end
slice_bounds-form_of-end c =
    let p = c.requires.0 in let g = c.field_at-domain.ensures.low in let i = c.field_at-domain.ensures.high in omega arith

pub returns-then-not-is_expressed : goal.returns-then-not-is_expressed
returns-then-not-is_expressed c =
    H.leaf-none _ _ _ _ c.field_at-domain.ensures _ c.form_of-form.ensures _ c.is_expressed.ensures c.if-not-is_expressed.true-raw _

pub field_at-lexical-requires : goal.field_at-lexical-requires
field_at-lexical-requires c = (c.requires.0, c.field_at-domain.ensures.last)

pub field_at-extra-requires : goal.field_at-extra-requires
field_at-extra-requires c = (c.requires.0, c.field_at-lexical.ensures.last)

pub slice_bounds-put_term-count : goal.slice_bounds-put_term-count
slice_bounds-put_term-count c =
    let p = c.requires.0 in let g = c.field_at-domain.ensures.low in let i = c.field_at-domain.ensures.high in let a = c.field_at-lexical.ensures.low in let b = c.field_at-lexical.ensures.high in let d = c.field_at-extra.ensures.low in let e = c.field_at-extra.ensures.high in omega arith

pub slice_bounds-put_term-start : goal.slice_bounds-put_term-start
slice_bounds-put_term-start c =
    let p = c.requires.0 in let g = c.field_at-domain.ensures.low in let i = c.field_at-domain.ensures.high in let a = c.field_at-lexical.ensures.low in let b = c.field_at-lexical.ensures.high in let d = c.field_at-extra.ensures.low in let e = c.field_at-extra.ensures.high in omega arith

pub slice_bounds-put_term-end : goal.slice_bounds-put_term-end
slice_bounds-put_term-end c =
    let p = c.requires.0 in let g = c.field_at-domain.ensures.low in let i = c.field_at-domain.ensures.high in let a = c.field_at-lexical.ensures.low in let b = c.field_at-lexical.ensures.high in let d = c.field_at-extra.ensures.low in let e = c.field_at-extra.ensures.high in omega arith

pub slice_bounds-put_term-count-2 : goal.slice_bounds-put_term-count-2
slice_bounds-put_term-count-2 c =
    let p = c.requires.0 in let g = c.field_at-domain.ensures.low in let i = c.field_at-domain.ensures.high in let a = c.field_at-lexical.ensures.low in let b = c.field_at-lexical.ensures.high in let d = c.field_at-extra.ensures.low in let e = c.field_at-extra.ensures.high in omega arith

pub slice_bounds-put_term-start-2 : goal.slice_bounds-put_term-start-2
slice_bounds-put_term-start-2 c =
    let p = c.requires.0 in let g = c.field_at-domain.ensures.low in let i = c.field_at-domain.ensures.high in let a = c.field_at-lexical.ensures.low in let b = c.field_at-lexical.ensures.high in let d = c.field_at-extra.ensures.low in let e = c.field_at-extra.ensures.high in omega arith

pub slice_bounds-put_term-end-2 : goal.slice_bounds-put_term-end-2
slice_bounds-put_term-end-2 c =
    let p = c.requires.0 in let g = c.field_at-domain.ensures.low in let i = c.field_at-domain.ensures.high in let a = c.field_at-lexical.ensures.low in let b = c.field_at-lexical.ensures.high in let d = c.field_at-extra.ensures.low in let e = c.field_at-extra.ensures.high in omega arith

pub returns : goal.returns
returns c =
    H.leaf-some _ _ _ _ c.field_at-domain.ensures _ c.form_of-form.ensures _ c.is_expressed.ensures c.if-not-is_expressed.false-raw _ _ c.field_at-lexical.ensures c.field_at-extra.ensures _ _ _ _ c.put_all.ensures c.put_term.ensures c.put.ensures
