-- `joining::merge/check_terms` meets its contract. Assumes nothing.
use Rattle.lists.proofs.Said as Said
use Rattle.projects.proofs.Known as K
use Rattle.projects.proofs.Outcomes as O
use mathlib.Core.Logic.{inl, inr}
use Rattle.std.proofs.lemmas.Result.{err_from_is_err_and}
use Rattle.algebra.proofs.Faults.{which}
use Rattle.joining.proofs.merge.check_terms.Goals as goal

pub returns : goal.returns
returns c =
    O.terms-second _ _ _ _ (K.good-terms _ _ _ _ c.check_constants.ensures.1 c.in_ok-check_constants.was) c.check_constants-2.ensures.1

pub returns-in_err-check_constants : goal.returns-in_err-check_constants
returns-in_err-check_constants c =
    let exit = err_from_is_err_and c.from_residual.result c.from_residual.ensures.1 in
    elim (which _ _ c.in_err-check_constants.was) [
      | inl fault ↦ rw (exit.1, exit.2, fault.1) (O.terms-malformed _ _ (Said.said-malformed _ _ _ _ c.check_constants.ensures.1 fault.0))
      | inr fault ↦ rw (exit.1, exit.2, fault.1) (O.terms-over _ _ (Said.said-over _ _ _ _ c.check_constants.ensures.1 fault.0))
    ]
