-- What the loops of `literal.is_tag` keep. Assumes nothing.
use mathlib.Core.Path.{◌≡◌}
use lib.ListN.{drop}
use mathlib.Core.Bool.{true, false}
use Rattle.editions.specs.Lexical.{is_tag}
use Rattle.terms.proofs.literal.is_tag.Given as goal

abbrev pub invariant-loop-b : goal.invariant-loop-b
invariant-loop-b l = is_tag false true l.f ≡ is_tag l.tag.more l.tag.first (drop l.b-index l.f)
