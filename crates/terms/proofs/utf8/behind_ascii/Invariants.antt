-- What the loops of `utf8.behind_ascii` keep. Assumes nothing.
use mathlib.Core.Path.{◌≡◌}
use lib.ListN.{drop}
use Rattle.editions.specs.Lexical.{is_utf8}
use Rattle.terms.proofs.utf8.behind_ascii.Given as goal

abbrev pub invariant-loop-i : goal.invariant-loop-i
invariant-loop-i l = is_utf8 l.f ≡ is_utf8 (drop l.i l.f)
