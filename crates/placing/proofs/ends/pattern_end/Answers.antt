-- `placing::ends/pattern_end` meets its contract. Assumes nothing.
use mathlib.Core.Path.{ap, ◌∙◌}
use native.Mathlib.Omega.{arith}
use Rattle.cursor.proofs.Laws.{line-there}
use Rattle.placing.proofs.Copied as C
use Rattle.placing.proofs.ends.pattern_end.Invariants.{at, awaited}
use Rattle.placing.proofs.ends.pattern_end.Goals as goal

pub loop-c-init : goal.loop-c-init
loop-c-init c = (omega arith, c.requires.0, omega arith, C.going_start _ _)

pub next_line-line-requires : goal.next_line-line-requires
next_line-line-requires c = c.loop-c.invariant.1

pub returns-then-line-text : goal.returns-then-line-text
returns-then-line-text c =
    let v = c.loop-c.invariant in C.going-stop _ _ _ _ _ v.0 v.1 v.3 (line-there _ _ _ c.next_line-line.ensures.1) c.if-line-text.true

pub lines_below-below-requires : goal.lines_below-below-requires
lines_below-below-requires c =
    let n = c.next_line-line.ensures.1 in let low = n.low in let high = n.high in let h = c.if-line-text.false in (omega arith, omega arith, c.requires.2)

pub line_done-requires : goal.line_done-requires
line_done-requires c = let high = c.next_line-line.ensures.1.high in let z = c.requires.1 in omega (arith, high, z)

pub overflow_sub-c : goal.overflow_sub-c
overflow_sub-c c = let t = c.loop-c-test.true in omega (arith, t)

pub overflow_add-c : goal.overflow_add-c
overflow_add-c c =
    let v = c.loop-c.invariant in let a = v.1 in let k = v.2 in let b = c.lines_below-below.ensures.1 in let z = c.requires.1 in omega (arith, a, k, b, z)

pub loop-c-smaller : goal.loop-c-smaller
loop-c-smaller c =
    let e = ap at c.awaiting-c.ensures ∙ ap at c.line_done.ensures in let n = c.next_line-line.ensures.1 in let low = n.low in let high = n.high in let a = c.loop-c.invariant.1 in omega (arith, e, low, high, a)

pub loop-c-preserved : goal.loop-c-preserved
loop-c-preserved c = let v = c.loop-c.invariant in let w = c.awaiting-c.ensures in let d = ap at c.line_done.ensures in let e = ap at w ∙ d in let i = ap awaited w in let f = v.0 in let k = v.2 in let n = c.next_line-line.ensures.1 in let low = n.low in let high = n.high in let h = c.if-line-text.false in let b = c.lines_below-below.ensures.1 in (
  omega (arith, e, f, low),
  omega (arith, e, high, h),
  omega (arith, e, i, k, low, b),
  C.going-child _ _ _ _ _ v.0 v.1 v.3 (line-there _ _ _ n) c.loop-c-test.true c.if-line-text.false _ c.lines_below-below.ensures.0 c.line_done.result _ d w,
)

pub returns : goal.returns
returns c = let v = c.loop-c.invariant in C.going_done _ _ _ _ v.0 v.1 v.3 c.loop-c-test.false
