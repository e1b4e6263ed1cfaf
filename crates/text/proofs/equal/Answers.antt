-- `text::equal` meets its contract. Assumes nothing.
use borrow.Author.Rules.{rules}
use mathlib.Core.Path.{refl, sym, ◌∙◌}
use native.Mathlib.Omega.{arith}
use borrow.Author.Tests.{ne_eqb, eq-eqb, not-true, not-false}
use Rattle.text.proofs.Lists as L
use Rattle.text.proofs.equal.Goals as goal

pub returns-then-f-g : goal.returns-then-f-g
returns-then-f-g c = sym (L.same-long _ _ c.if-f-g.true)

pub loop-i-init : goal.loop-i-init
loop-i-init c = (search rules, refl)

pub returns-then-not-equal_four : goal.returns-then-not-equal_four
returns-then-not-equal_four c = sym (c.loop-i.invariant.1 ∙ c.equal_four.ensures.1 (not-true _ c.if-not-equal_four.true-raw))

pub loop-i-preserved : goal.loop-i-preserved
loop-i-preserved c =
    (search rules, c.loop-i.invariant.1 ∙ c.equal_four.ensures.0 (not-false _ c.if-not-equal_four.false-raw))

pub loop-i-2-init : goal.loop-i-2-init
loop-i-2-init c = c.loop-i.invariant

pub returns-then-f-i : goal.returns-then-f-i
returns-then-f-i c =
    sym (c.loop-i-2.invariant.1 ∙ L.same_next _ _ _ c.loop-i-2-test.true (omega arith) ∙ rw (ne_eqb _ _ c.if-f-i.true))

pub loop-i-2-preserved : goal.loop-i-2-preserved
loop-i-2-preserved c =
    (search rules, c.loop-i-2.invariant.1 ∙ L.same_next _ _ _ c.loop-i-2-test.true (omega arith) ∙ rw (eq-eqb _ _ c.if-f-i.false))

pub returns : goal.returns
returns c = sym (c.loop-i-2.invariant.1 ∙ L.same_end _ _ _ c.loop-i-2-test.false (omega arith))
