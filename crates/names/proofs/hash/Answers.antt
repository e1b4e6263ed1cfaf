-- `names::hash` meets its contract. Assumes nothing.
use borrow.Author.Rules.{rules}
use mathlib.Core.Path.{refl, sym, ◌∙◌}
use Rattle.names.proofs.hash.Goals as goal

pub loop-i-init : goal.loop-i-init
loop-i-init c = (search rules, search rules, refl)

pub loop-i-preserved : goal.loop-i-preserved
loop-i-preserved c = (search rules, c.hash_four-h.ensures.1, c.loop-i.invariant.2 ∙ sym c.hash_four-h.ensures.0)

pub returns : goal.returns
returns c = (c.hash_rest.ensures.0 ∙ sym c.loop-i.invariant.2, c.hash_rest.ensures.1)
