-- What the loops of `iri.is_iri_rest` keep. Assumes nothing.
use mathlib.Core.Path.{◌≡◌}
use lib.ListN.{drop}
use Rattle.editions.specs.Lexical.{iri_rest}
use Rattle.terms.proofs.iri.is_iri_rest.Given as goal

abbrev pub invariant-loop-i : goal.invariant-loop-i
invariant-loop-i l = iri_rest l.f ≡ iri_rest (drop l.i l.f)
