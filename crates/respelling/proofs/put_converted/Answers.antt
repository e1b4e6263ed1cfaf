-- `respelling::put_converted` meets its contract. Assumes nothing.
use mathlib.Core.Path.{refl}
use native.Mathlib.Omega.{arith}
use Rattle.respelling.proofs.Turns as T
use Rattle.respelling.proofs.Called as C
use Rattle.respelling.proofs.put_converted.Goals as goal

pub loop-at-init : goal.loop-at-init
loop-at-init c = T.below-start _ _ _ _ refl (C.tree-lines-ended _ _ c.requires.0.1)

pub next_end-end-requires : goal.next_end-end-requires
next_end-end-requires c = c.loop-at.invariant.here

pub word_at-word-requires : goal.word_at-word-requires
word_at-word-requires c = let f = c.next_end-end.ensures in (f.low, f.high)

pub put_fields-put-requires : goal.put_fields-put-requires
put_fields-put-requires c =
    let e = T.line-ends _ _ _ _ _ _ _ c.loop-at.invariant c.loop-at-test.true _ c.next_end-end.ensures in let w = c.word_at-word.ensures.0 in let low = c.loop-at.invariant.low in let a = w.low in (omega arith, w.high, e, w.here, c.requires.1)

pub overflow_add-at : goal.overflow_add-at
overflow_add-at c =
    let e = T.line-ends _ _ _ _ _ _ _ c.loop-at.invariant c.loop-at-test.true _ c.next_end-end.ensures in omega arith

pub loop-at-smaller : goal.loop-at-smaller
loop-at-smaller c =
    let e = T.line-ends _ _ _ _ _ _ _ c.loop-at.invariant c.loop-at-test.true _ c.next_end-end.ensures in let f = c.next_end-end.ensures.low in omega arith

pub loop-at-preserved : goal.loop-at-preserved
loop-at-preserved c =
    T.below_next _ _ _ _ _ _ _ c.loop-at.invariant c.loop-at-test.true _ c.next_end-end.ensures _ _ c.word_at-word.ensures.0 c.word_at-word.ensures.1 _ _ c.put_fields-put.ensures.0 c.put_fields-put.ensures.1

pub slice_bounds-put_all-count : goal.slice_bounds-put_all-count
slice_bounds-put_all-count c = let low = c.loop-at.invariant.low in let here = c.loop-at.invariant.here in omega arith

pub slice_bounds-put_all-start : goal.slice_bounds-put_all-start
slice_bounds-put_all-start c = let low = c.loop-at.invariant.low in let here = c.loop-at.invariant.here in omega arith

pub slice_bounds-put_all-end : goal.slice_bounds-put_all-end
slice_bounds-put_all-end c = let low = c.loop-at.invariant.low in let here = c.loop-at.invariant.here in omega arith

pub returns : goal.returns
returns c =
    T.below_end _ _ _ _ _ _ _ c.loop-at.invariant c.loop-at-test.false refl refl _ c.put_all.ensures
