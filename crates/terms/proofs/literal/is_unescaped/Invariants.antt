-- What the loops of `literal.is_unescaped` keep. Assumes nothing.
use mathlib.Core.Path.{◌≡◌}
use mathlib.Core.Bool.{not, ◌&&◌}
use lib.ListN.{drop}
use Rattle.editions.specs.Lexical.{starts_u, unescaped}
use Rattle.terms.proofs.literal.is_unescaped.Given as goal

abbrev pub invariant-loop-b : goal.invariant-loop-b
invariant-loop-b l = unescaped l.f ≡ (not (l.slash && starts_u (drop l.b-index l.f)) && unescaped (drop l.b-index l.f))
