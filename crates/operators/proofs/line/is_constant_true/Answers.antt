-- `operators::line/is_constant_true` meets its contract. Assumes nothing.
use borrow.Author.Rules.{rules}
use native.Mathlib.Omega.{arith}
use Rattle.words.specs.bridge.Key.{key_of}
use Rattle.operators.proofs.Headed as H
use Rattle.operators.proofs.line.is_constant_true.Goals as goal

pub word_at-w-requires : goal.word_at-w-requires
unfolding key_of
word_at-w-requires c = search rules

pub returns-then-w-ne-LEAF : goal.returns-then-w-ne-LEAF
unfolding key_of
returns-then-w-ne-LEAF c =
    H.true-other _ _ _ _ c.requires.0 c.requires.1 c.word_at-w.ensures.0 _ c.word_at-w.ensures.1 c.if-w-ne-LEAF.true

pub overflow_add-first : goal.overflow_add-first
unfolding key_of
overflow_add-first c =
    let w = c.word_at-w.ensures.0 in let low = w.low in let high = w.high in let p = c.requires.1 in omega arith

pub field_at-domain-requires : goal.field_at-domain-requires
unfolding key_of
field_at-domain-requires c =
    let w = c.word_at-w.ensures.0 in let low = w.low in let high = w.high in let p = c.requires.1 in (p, omega arith)

pub slice_bounds-equal-count : goal.slice_bounds-equal-count
unfolding key_of
slice_bounds-equal-count c =
    let w = c.word_at-w.ensures.0 in let low = w.low in let high = w.high in let p = c.requires.1 in let i = c.field_at-domain.ensures in let g = i.low in let h = i.high in omega arith

pub slice_bounds-equal-start : goal.slice_bounds-equal-start
unfolding key_of
slice_bounds-equal-start c =
    let w = c.word_at-w.ensures.0 in let low = w.low in let high = w.high in let p = c.requires.1 in let i = c.field_at-domain.ensures in let g = i.low in let h = i.high in omega arith

pub slice_bounds-equal-end : goal.slice_bounds-equal-end
unfolding key_of
slice_bounds-equal-end c =
    let w = c.word_at-w.ensures.0 in let low = w.low in let high = w.high in let p = c.requires.1 in let i = c.field_at-domain.ensures in let g = i.low in let h = i.high in omega arith

pub equal-requires : goal.equal-requires
unfolding key_of
equal-requires c = search rules

pub returns-then-not-equal : goal.returns-then-not-equal
unfolding key_of
returns-then-not-equal c =
    H.true-domain _ _ _ _ c.requires.0 c.requires.1 c.word_at-w.ensures.0 _ c.word_at-w.ensures.1 c.if-w-ne-LEAF.false _ c.field_at-domain.ensures _ c.equal.ensures c.if-not-equal.true-raw

pub field_at-lexical-requires : goal.field_at-lexical-requires
unfolding key_of
field_at-lexical-requires c = (c.requires.1, c.field_at-domain.ensures.last)

pub slice_bounds-equal-count-2 : goal.slice_bounds-equal-count-2
unfolding key_of
slice_bounds-equal-count-2 c =
    let w = c.word_at-w.ensures.0 in let low = w.low in let high = w.high in let p = c.requires.1 in let i = c.field_at-lexical.ensures in let g = i.low in let h = i.high in let j = c.field_at-domain.ensures in let k = j.low in let l = j.last in let m = j.after in omega arith

pub slice_bounds-equal-start-2 : goal.slice_bounds-equal-start-2
unfolding key_of
slice_bounds-equal-start-2 c =
    let w = c.word_at-w.ensures.0 in let low = w.low in let high = w.high in let p = c.requires.1 in let i = c.field_at-lexical.ensures in let g = i.low in let h = i.high in let j = c.field_at-domain.ensures in let k = j.low in let l = j.last in let m = j.after in omega arith

pub slice_bounds-equal-end-3 : goal.slice_bounds-equal-end-3
unfolding key_of
slice_bounds-equal-end-3 c =
    let w = c.word_at-w.ensures.0 in let low = w.low in let high = w.high in let p = c.requires.1 in let i = c.field_at-lexical.ensures in let g = i.low in let h = i.high in let j = c.field_at-domain.ensures in let k = j.low in let l = j.last in let m = j.after in omega arith

pub equal-requires-2 : goal.equal-requires-2
unfolding key_of
equal-requires-2 c = search rules

pub returns : goal.returns
unfolding key_of
returns c =
    H.true-lexical _ _ _ _ c.requires.0 c.requires.1 c.word_at-w.ensures.0 _ c.word_at-w.ensures.1 c.if-w-ne-LEAF.false _ c.field_at-domain.ensures _ c.equal.ensures c.if-not-equal.false-raw _ c.field_at-lexical.ensures _ c.equal-2.ensures
