-- `text::find` meets its contract. Assumes nothing.
use borrow.Author.Rules.{rules}
use mathlib.Core.Path.{sym, subst}
use mathlib.Core.Logic.{⊎_elim}
use native.Mathlib.Omega.{arith}
use borrow.Author.Count.{below_more}
use borrow.Author.Tests.{not-false}
use Rattle.text.proofs.Blocks.{block_more}
use Rattle.text.proofs.find.Invariants.{Searched}
use Rattle.text.proofs.find.Goals as goal
use Rattle.text.proofs.find.Goals.{then-to-i-ge4+then-lacks_four, then-to-i-ge4+else-lacks_four, else-to-i-ge4}

pub loop-i-init : goal.loop-i-init
loop-i-init c = (omega arith, omega arith, λ k h l e. omega arith)

pub loop-i-preserved : goal.loop-i-preserved
loop-i-preserved c =
    (search rules, search rules, block_more _ c.args.s.now _ _ 8 c.loop-i.invariant.2 (c.lacks_eight.ensures (not-false _ c.if-not-lacks_eight.false-raw)))

pub loop-i-2-init : goal.loop-i-2-init
loop-i-2-init c =
    let v = c.loop-i.invariant in let a = c.args in let S = Searched a.s.now a.from a.to a.b in
    elim c.if-to-i-ge4.branch [
      | then-to-i-ge4+then-lacks_four w ↦ let h = w.if-to-i-ge4.true in subst S (sym w.i-is) (omega arith, omega arith, block_more _ a.s.now _ _ 4 v.2 (w.lacks_four.ensures w.if-lacks_four.true))
      | then-to-i-ge4+else-lacks_four w ↦ subst S (sym w.i-is) v
      | else-to-i-ge4 w ↦ subst S (sym w.i-is) v
    ]

pub returns-then-s-i : goal.returns-then-s-i
returns-then-s-i c =
    record { low = omega arith; high = omega arith; before = c.loop-i-2.invariant.2; here = λ _. c.if-s-i.true }

pub loop-i-2-preserved : goal.loop-i-2-preserved
loop-i-2-preserved c = (search rules, search rules, below_more _ _ c.loop-i-2.invariant.2 (λ _. c.if-s-i.false))

pub returns : goal.returns
returns c =
    record { low = omega arith; high = omega arith; before = c.loop-i-2.invariant.2; here = λ h. absurd (omega arith) }
