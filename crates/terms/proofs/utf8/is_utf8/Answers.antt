-- `terms::utf8/is_utf8` meets its contract. Assumes nothing.
use mathlib.Core.Path.{ap, ◌∙◌}
use Rattle.editions.specs.Lexical.{is_utf8}
use Rattle.terms.proofs.Laws as L
use Rattle.terms.proofs.utf8.is_utf8.Goals as goal

pub returns : goal.returns
returns c = c.is_encoded.ensures ∙ ap is_utf8 (L.held c.args.f.now c.args.from _ c.min-at.ensures)
