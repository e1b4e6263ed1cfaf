-- `negating::negate` meets its contract. Assumes nothing.
use Rattle.reading.specs.bridge.Variables.{query_names}
use Rattle.reading.proofs.Said as Said
use Rattle.negating.proofs.Negated as Neg
use mathlib.Core.Logic.{inl, inr}
use Rattle.std.proofs.lemmas.Result.{err_from_is_err_and}
use Rattle.algebra.proofs.Faults.{which}
use Rattle.negating.proofs.negate.Goals as goal

pub negate_given-requires : goal.negate_given-requires
negate_given-requires c =
    let g = Said.said-good query_names _ _ _ _ _ _ _ c.check_query.ensures c.in_ok-check_query.was in (g.value, g.read)

pub returns-in_err-check_query : goal.returns-in_err-check_query
returns-in_err-check_query c =
    let exit = err_from_is_err_and c.from_residual.result c.from_residual.ensures.1 in
    elim (which _ _ c.in_err-check_query.was) [
      | inl fault ↦ rw (exit.1, exit.2, fault.1) (Neg.negate-malformed _ _ (Said.said-malformed query_names _ _ _ _ _ _ c.check_query.ensures fault.0))
      | inr fault ↦ rw (exit.1, exit.2, fault.1) (Neg.negate-over _ _ (Said.said-over query_names _ _ _ _ _ _ c.check_query.ensures fault.0))
    ]
