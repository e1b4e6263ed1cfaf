-- `terms::utf8/is_encoded` meets its contract. Assumes nothing.
use mathlib.Core.Path.{sym, ◌∙◌}
use Rattle.terms.proofs.Laws as L
use Rattle.terms.proofs.utf8.is_encoded.Goals as goal

pub returns-in_default : goal.returns-in_default
returns-in_default c = sym (c.loop-b.invariant ∙ L.stops _ _ _ _ _ c.loop-b-test.true c.in_default.ensures)
