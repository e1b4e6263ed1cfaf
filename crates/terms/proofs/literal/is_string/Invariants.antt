-- What the loops of `literal.is_string` keep. Assumes nothing.
use mathlib.Core.Path.{◌≡◌}
use lib.ListN.{drop}
use mathlib.Core.Bool.{false}
use Rattle.editions.specs.Lexical.{is_string}
use Rattle.terms.proofs.literal.is_string.Given as goal

abbrev pub invariant-loop-i : goal.invariant-loop-i
invariant-loop-i l = is_string false l.f ≡ is_string l.escaped (drop l.i l.f)
