-- `expressing::filters/is_inside` meets its contract. Assumes nothing.
use borrow.Author.Rules.{rules}
use native.Mathlib.Omega.{arith}
use Rattle.words.specs.bridge.Key.{key_of}
use Rattle.expressing.proofs.Counted as C
use Rattle.expressing.proofs.filters.is_inside.Goals as goal

pub word_at-w-requires : goal.word_at-w-requires
unfolding key_of
word_at-w-requires c = search rules

pub returns-then-w-ne-REF : goal.returns-then-w-ne-REF
unfolding key_of
returns-then-w-ne-REF c =
    C.ref-other _ _ _ _ c.requires.0 c.requires.1 c.word_at-w.ensures.0 _ c.word_at-w.ensures.1 _ c.if-w-ne-REF.true

pub overflow_add-first : goal.overflow_add-first
unfolding key_of
overflow_add-first c =
    let w = c.word_at-w.ensures.0 in let low = w.low in let high = w.high in let p = c.requires.1 in omega arith

pub field_at-field-requires : goal.field_at-field-requires
unfolding key_of
field_at-field-requires c =
    let w = c.word_at-w.ensures.0 in let low = w.low in let high = w.high in let p = c.requires.1 in (p, omega arith)

pub slice_bounds-position_of-count : goal.slice_bounds-position_of-count
unfolding key_of
slice_bounds-position_of-count c =
    let w = c.word_at-w.ensures.0 in let low = w.low in let high = w.high in let p = c.requires.1 in let i = c.field_at-field.ensures in let g = i.low in let h = i.high in omega arith

pub slice_bounds-position_of-start : goal.slice_bounds-position_of-start
unfolding key_of
slice_bounds-position_of-start c =
    let w = c.word_at-w.ensures.0 in let low = w.low in let high = w.high in let p = c.requires.1 in let i = c.field_at-field.ensures in let g = i.low in let h = i.high in omega arith

pub slice_bounds-position_of-end : goal.slice_bounds-position_of-end
unfolding key_of
slice_bounds-position_of-end c =
    let w = c.word_at-w.ensures.0 in let low = w.low in let high = w.high in let p = c.requires.1 in let i = c.field_at-field.ensures in let g = i.low in let h = i.high in omega arith

pub position_of-requires : goal.position_of-requires
unfolding key_of
position_of-requires c = search rules

pub returns : goal.returns
unfolding key_of
returns c =
    C.ref-is _ _ _ _ c.requires.0 c.requires.1 c.word_at-w.ensures.0 _ c.word_at-w.ensures.1 _ c.if-w-ne-REF.false _ c.field_at-field.ensures _ c.position_of.ensures.0
