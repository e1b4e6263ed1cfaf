-- `terms::iri/is_iriref` meets its contract. Assumes nothing.
use mathlib.Core.Path.{ap, ◌∙◌}
use Rattle.editions.specs.Lexical.{is_iriref}
use Rattle.terms.proofs.Laws as L
use Rattle.terms.proofs.iri.is_iriref.Goals as goal

pub returns : goal.returns
returns c = c.is_reference.ensures ∙ ap is_iriref (L.held c.args.f.now c.args.from _ c.min-at.ensures)
