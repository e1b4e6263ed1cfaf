-- What the loops of `variable.is_var1` keep. Assumes nothing.
use mathlib.Core.Path.{◌≡◌}
use lib.ListN.{drop}
use Rattle.editions.specs.Lexical.{is_var1, all_name}
use Rattle.terms.proofs.variable.is_var1.Given as goal

abbrev pub invariant-loop-b : goal.invariant-loop-b
invariant-loop-b l = is_var1 l.f ≡ all_name (drop l.b-index l.name)
