-- `text::integers/digits` meets its contract. Assumes nothing.
use borrow.Author.Rules.{rules}
use mathlib.Core.Path.{refl, sym, ◌∙◌}
use borrow.Author.Tests.{le-leb, lt-leb}
use Rattle.text.proofs.FieldLaws as F
use Rattle.text.proofs.integers.digits.Goals as goal

pub loop-d-init : goal.loop-d-init
loop-d-init c = (search rules, refl)

pub returns-then-d-lt48 : goal.returns-then-d-lt48
returns-then-d-lt48 c =
    sym (c.loop-d.invariant.1 ∙ F.digits-next _ _ _ c.loop-d-test.true ∙ simp (lt-leb _ _ c.if-d-lt48.true))

pub returns-then-d-gt57 : goal.returns-then-d-gt57
returns-then-d-gt57 c =
    sym (c.loop-d.invariant.1 ∙ F.digits-next _ _ _ c.loop-d-test.true ∙ simp (le-leb _ _ c.if-d-lt48.false, lt-leb _ _ c.if-d-gt57.true))

pub returns-then-m-gt4294967295 : goal.returns-then-m-gt4294967295
returns-then-m-gt4294967295 c =
    sym (c.loop-d.invariant.1 ∙ F.digits-next _ _ _ c.loop-d-test.true ∙ simp (le-leb _ _ c.if-d-lt48.false, le-leb _ _ c.if-d-gt57.false, lt-leb _ _ c.if-m-gt4294967295.true))

pub loop-d-preserved : goal.loop-d-preserved
loop-d-preserved c =
    (search rules, c.loop-d.invariant.1 ∙ F.digits-next _ _ _ c.loop-d-test.true ∙ simp (le-leb _ _ c.if-d-lt48.false, le-leb _ _ c.if-d-gt57.false, le-leb _ _ c.if-m-gt4294967295.false))

pub returns : goal.returns
returns c = sym (c.loop-d.invariant.1 ∙ F.digits-end _ _ _ c.loop-d-test.false)
