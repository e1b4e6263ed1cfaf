-- `parted::part_texts` meets its contract: the texts up to the one that ends here are kept. Assumes nothing.
use mathlib.Core.Path.{refl, sym, ◌∙◌}
use Prim.Native.Nat.{◌+◌}
use native.Mathlib.Omega.{arith}
use lib.ListN.{length-set}
use Rattle.parted.proofs.Laws.{count-start, count_next, after_none}
use Rattle.parted.proofs.Parts.{parted-start, parted-next, parted-past, parted-same, set-end}
use Rattle.parted.proofs.part_texts.Goals as goal

pub loop-end-init : goal.loop-end-init
loop-end-init c =
    let e = c.text_end-end.ensures in let l = c.requires in let a = c.args.ends.now in let q = length-set a 0 c.text_end-end.result in (refl, omega arith, e.high, e.room, count-start _ _ e ∙ omega arith, parted-start _ a _ _ (omega (arith, q, l)) (sym q) e, λ h. set-end a _ 0 c.text_end-end.result (sym q) h)

pub overflow_add-end : goal.overflow_add-end
overflow_add-end c = omega (arith, c.loop-end.invariant.3 c.loop-end-test.true)

pub text_end-end-requires-in-loop-end : goal.text_end-end-requires-in-loop-end
text_end-end-requires-in-loop-end c = omega (arith, c.loop-end.invariant.3 c.loop-end-test.true)

pub offset_bounds-ends-n : goal.offset_bounds-ends-n
offset_bounds-ends-n c =
    let q = length-set c.args.ends.now 0 c.text_end-end.result in omega (arith, q, c.loop-end.invariant.0, c.if-n-ends.true)

pub loop-end-smaller-then-n-ends : goal.loop-end-smaller-then-n-ends
loop-end-smaller-then-n-ends c =
    let low = c.text_end-end-in-loop-end.ensures.low in let more = c.loop-end-test.true in omega (arith, low, more)

pub loop-end-preserved-then-n-ends : goal.loop-end-preserved-then-n-ends
loop-end-preserved-then-n-ends c = let e = c.text_end-end-in-loop-end.ensures in
    let low = e.low in
    let more = c.loop-end-test.true in
    let inv = c.loop-end.invariant in
    let ends = c.loop-end.ends in
    let n = c.loop-end.n in
    let next = count_next _ _ _ more e in
    (length-set ends (n + 1) c.text_end-end-in-loop-end.result ∙ inv.0, omega arith, e.high, e.room, inv.4 ∙ omega arith, parted-next _ _ _ _ _ inv.5 inv.6 more _ e (omega (arith, c.if-n-ends.true, inv.0)) inv.0, λ h. set-end ends _ (n + 1) c.text_end-end-in-loop-end.result inv.0 h)

pub loop-end-smaller : goal.loop-end-smaller
loop-end-smaller c =
    let low = c.text_end-end-in-loop-end.ensures.low in let more = c.loop-end-test.true in omega (arith, low, more)

pub loop-end-preserved : goal.loop-end-preserved
loop-end-preserved c = let e = c.text_end-end-in-loop-end.ensures in
    let low = e.low in
    let more = c.loop-end-test.true in
    let inv = c.loop-end.invariant in
    let next = count_next _ _ _ more e in
    let many = c.if-n-ends.false in
    (inv.0, omega arith, e.high, e.room, inv.4 ∙ omega arith, parted-past _ _ _ _ _ inv.5 inv.6 more (omega (arith, many, inv.0)), λ h. absurd (omega (arith, many, inv.0, h)))

pub shape_of-ends : goal.shape_of-ends
shape_of-ends c = let a = c.args.ends.now in c.loop-end.invariant.0 ∙ length-set a 0 c.text_end-end.result

pub returns : goal.returns
returns c = let inv = c.loop-end.invariant in
    let a = c.args.ends.now in
    (inv.4 ∙ rw (after_none _ _ c.loop-end-test.false) (omega arith), parted-same _ _ _ _ _ (length-set a 0 c.text_end-end.result) inv.5)
