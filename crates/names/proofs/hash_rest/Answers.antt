-- `names::hash_rest` meets its contract. Assumes nothing.
use borrow.Author.Rules.{rules}
use mathlib.Core.Path.{refl, sym, ◌∙◌}
use Rattle.names.proofs.Laws as L
use Rattle.names.proofs.hash_rest.Goals as goal

pub loop-i-init : goal.loop-i-init
loop-i-init c = (search rules, search rules, refl)

pub loop-i-preserved : goal.loop-i-preserved
loop-i-preserved c =
    (search rules, search rules, c.loop-i.invariant.2 ∙ L.hash-next _ _ _ _ c.loop-i-test.true c.byte.ensures.0)

pub returns : goal.returns
returns c = (sym (c.loop-i.invariant.2 ∙ L.hash-end _ _ _ c.loop-i-test.false), search rules)
