-- `binding::judge/judge` meets its contract. Assumes nothing.
use mathlib.Core.Path.{ap}
use native.Mathlib.Omega.{arith}
use Rattle.cursor.proofs.Laws.{line-there}
use Rattle.binding.proofs.Judging as J
use Rattle.binding.proofs.judge.judge.Invariants.{at}
use Rattle.binding.proofs.judge.judge.Goals as goal

pub loop-c-init : goal.loop-c-init
loop-c-init c = rw c.new-c.ensures.0 (J.going_start _ _)

pub returns-then-line-sets : goal.returns-then-line-sets
returns-then-line-sets c =
    J.going-stop _ _ _ _ c.loop-c.invariant _ (line-there _ _ _ c.next_line-line.ensures.1) c.if-line-sets.true

pub judge_line-judged-requires : goal.judge_line-judged-requires
judge_line-judged-requires c =
    let n = c.next_line-line.ensures.1 in let high = n.high in let o = c.if-line-sets.false in (n.low, omega (arith, high, o), c.loop-c.invariant.few)

pub line_done-c-requires : goal.line_done-c-requires
line_done-c-requires c =
    let h = c.next_line-line.ensures.1.high in let n = c.if-line-sets.false in let g = c.well_formed in omega (arith, h, n, g)

pub loop-c-smaller : goal.loop-c-smaller
loop-c-smaller c =
    let e = ap at c.line_done-c.ensures in let low = c.next_line-line.ensures.1.low in let t = c.loop-c-test.true in omega (arith, e, low, t)

pub loop-c-preserved : goal.loop-c-preserved
loop-c-preserved c =
    let l = line-there _ _ _ c.next_line-line.ensures.1 in rw (ap at c.line_done-c.ensures) (J.going_next _ _ _ _ c.loop-c.invariant _ l c.if-line-sets.false _ c.judge_line-judged.ensures)

pub returns : goal.returns
returns c = J.going_done _ _ _ _ c.loop-c.invariant c.loop-c-test.false
