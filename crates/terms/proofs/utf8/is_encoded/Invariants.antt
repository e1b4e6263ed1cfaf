-- What the loops of `utf8.is_encoded` keep. Assumes nothing.
use mathlib.Core.Path.{◌≡◌}
use lib.ListN.{drop}
use Rattle.editions.specs.Lexical.{utf8, is_utf8}
use Rattle.terms.specs.bridge.State.{state_at}
use Rattle.terms.proofs.utf8.is_encoded.Given as goal

abbrev pub invariant-loop-b : goal.invariant-loop-b
invariant-loop-b l = is_utf8 l.f ≡ utf8 (state_at l.state.count l.state.low l.state.high) (drop l.b-index l.rest)
