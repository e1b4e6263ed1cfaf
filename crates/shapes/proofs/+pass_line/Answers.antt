-- A line calls itself for each line below it, the text that is left falling. Assumes nothing.
use native.Mathlib.Omega.{arith}
use Prim.Native.Nat.{ℕ}
use mathlib.Core.Path.{ap}
use Rattle.cursor.specs.declared.Cursor.{Cursor}
use Rattle.shapes.proofs.Steps as S
use Rattle.shapes.proofs.+pass_line.Goals as goal

-- A line calls itself for each line below it, the text that is left falling. Assumes nothing.

-- where a cursor is
abbrev at : Cursor → ℕ
at d = d.at

pub next_line-line-requires : goal.next_line-line-requires
next_line-line-requires t c = let e = ap at c.moved_to.ensures in let p = c.requires.0 in omega (arith, e, p)

pub returns-then-end-text : goal.returns-then-end-text
returns-then-end-text t c =
    let p = c.requires in let l = S.line_at _ _ _ _ (ap at c.moved_to.ensures) c.next_line-line.ensures.1 in S.none_left _ _ _ _ _ p.0 p.2 _ l c.if-end-text.true

pub level_of-d-requires : goal.level_of-d-requires
level_of-d-requires t c =
    let p = c.requires in let a = c.args in let n = c.next_line-line.ensures.1 in let l = S.line_at _ _ _ _ (ap at c.moved_to.ensures) n in let h = n.high in let m = c.if-end-text.false in let w = S.line_low _ a.level _ a.from.lines a.from.depth p.0 p.2 _ l m in (w, omega (arith, h, m), p.1)

pub lines_below-below-requires : goal.lines_below-below-requires
lines_below-below-requires t c =
    let p = c.requires in let a = c.args in let n = c.next_line-line.ensures.1 in let l = S.line_at _ _ _ _ (ap at c.moved_to.ensures) n in let h = n.high in let m = c.if-end-text.false in let w = S.line_low _ a.level _ a.from.lines a.from.depth p.0 p.2 _ l m in (w, omega (arith, h, m), p.3)

pub overflow_add-r : goal.overflow_add-r
overflow_add-r t c =
    let h = c.next_line-line.ensures.1.high in let m = c.if-end-text.false in let g = c.well_formed in omega (arith, h, m, g)

pub overflow_add-r-2 : goal.overflow_add-r-2
overflow_add-r-2 t c = let p = c.requires in let x = p.0 in let y = p.2 in let g = c.well_formed in omega (arith, x, y, g)

pub loop-child-init : goal.loop-child-init
loop-child-init t c =
    let p = c.requires in let a = c.args in let n = c.next_line-line.ensures.1 in let l = S.line_at _ _ _ _ (ap at c.moved_to.ensures) n in let h = n.high in let m = c.if-end-text.false in let w = S.line_low _ a.level _ a.from.lines a.from.depth p.0 p.2 _ l m in let x = p.1 in let y = p.2 in let d = c.level_of-d.ensures.1 in S.begun _ _ _ _ _ (omega arith) (omega (arith, h, m)) (omega (arith, w, y)) (omega (arith, w, x, d))

pub pass_line-r-requires : goal.pass_line-r-requires
pass_line-r-requires t c =
    let p = c.requires in let a = c.args in let n = c.next_line-line.ensures.1 in let l = S.line_at _ _ _ _ (ap at c.moved_to.ensures) n in let h = n.high in let m = c.if-end-text.false in let w = S.line_low _ a.level _ a.from.lines a.from.depth p.0 p.2 _ l m in let g = c.loop-child.invariant in let on = g.on in let x = p.0 in let z = c.decreases in (omega (arith, w, on, x, z), (g.high, g.low, g.few, p.3))

pub loop-child-preserved : goal.loop-child-preserved
loop-child-preserved t c =
    let h = c.loop-child-test.true in S.behind _ _ _ _ _ _ c.loop-child.invariant (omega arith) _ c.pass_line-r.ensures _ (omega arith)

pub returns : goal.returns
returns t c =
    let p = c.requires in let a = c.args in let n = c.next_line-line.ensures.1 in let l = S.line_at _ _ _ _ (ap at c.moved_to.ensures) n in let h = n.high in let m = c.if-end-text.false in let w = S.line_low _ a.level _ a.from.lines a.from.depth p.0 p.2 _ l m in S.taken _ _ _ _ _ p.0 p.2 _ l m _ _ _ c.level_of-d.ensures.0 c.lines_below-below.ensures.0 c.max.ensures _ _ c.loop-child.invariant (omega (arith, c.loop-child-test.false))
