-- `words::extra_kind` meets its contract. Assumes nothing.
use borrow.Author.Rules.{rules}
use mathlib.Core.Path.{refl, sym, ◌∙◌}
use Rattle.words.proofs.Domains as D
use Rattle.words.proofs.extra_kind.Goals as goal

pub loop-i-init : goal.loop-i-init
loop-i-init c = (search rules, refl)

pub returns-then-is_domain : goal.returns-then-is_domain
returns-then-is_domain c =
    D.extra-hit _ _ _ c.loop-i-test.true c.is_domain.ensures _ c.if-is_domain.true c.extra_at.ensures ∙ sym c.loop-i.invariant.1

pub loop-i-preserved : goal.loop-i-preserved
loop-i-preserved c =
    (search rules, c.loop-i.invariant.1 ∙ D.extra-miss _ _ _ c.loop-i-test.true c.is_domain.ensures c.if-is_domain.false)

pub returns : goal.returns
returns c = sym (c.loop-i.invariant.1 ∙ D.extra-none _ _ c.loop-i-test.false)
