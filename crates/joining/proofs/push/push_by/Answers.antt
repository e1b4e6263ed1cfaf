-- `joining::push/push_by` meets its contract. Assumes nothing.
use Rattle.projects.proofs.Known as K
use Rattle.lists.proofs.Said as Said
use Rattle.joining.proofs.Calls as Calls
use mathlib.Core.Logic.{inl, inr}
use Rattle.std.proofs.lemmas.Result.{err_from_is_err_and}
use Rattle.algebra.proofs.Faults.{which}
use Rattle.joining.proofs.push.push_by.Goals as goal

pub push_of-requires : goal.push_of-requires
push_of-requires c = let p = c.requires in (p.0, K.good-terms _ _ _ _ c.check_constants.ensures.1 c.in_ok-check_constants.was, p.1, p.2)

pub returns : goal.returns
returns c = c.push_of.ensures

pub returns-in_err-check_constants : goal.returns-in_err-check_constants
returns-in_err-check_constants c =
    let exit = err_from_is_err_and c.from_residual.result c.from_residual.ensures.1 in
    elim (which _ _ c.in_err-check_constants.was) [
      | inl fault ↦ rw (exit.1, exit.2, fault.1) (λ q s h. Calls.terms-malformed q _ _ (Said.said-malformed _ _ _ _ c.check_constants.ensures.1 fault.0))
      | inr fault ↦ rw (exit.1, exit.2, fault.1) (λ q s h. Calls.terms-over q _ _ (Said.said-over _ _ _ _ c.check_constants.ensures.1 fault.0))
    ]
