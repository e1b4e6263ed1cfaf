-- `joining::merge/check_lists` meets its contract. Assumes nothing.
use Rattle.lists.proofs.Said as Said
use Rattle.projects.proofs.Known as K
use Rattle.projects.proofs.Outcomes as O
use mathlib.Core.Logic.{inl, inr}
use Rattle.std.proofs.lemmas.Result.{err_from_is_err_and}
use Rattle.algebra.proofs.Faults.{which}
use Rattle.joining.proofs.merge.check_lists.Goals as goal

pub returns : goal.returns
returns c =
    O.lists-rest _ _ _ _ (K.good-joins _ _ _ _ c.check_joins.ensures.1 c.in_ok-check_joins.was) c.check_terms.ensures

pub returns-in_err-check_joins : goal.returns-in_err-check_joins
returns-in_err-check_joins c =
    let exit = err_from_is_err_and c.from_residual.result c.from_residual.ensures.1 in
    elim (which _ _ c.in_err-check_joins.was) [
      | inl fault ↦ rw (exit.1, exit.2, fault.1) (O.lists-malformed _ _ _ (Said.said-malformed _ _ _ _ c.check_joins.ensures.1 fault.0))
      | inr fault ↦ rw (exit.1, exit.2, fault.1) (O.lists-over _ _ _ (Said.said-over _ _ _ _ c.check_joins.ensures.1 fault.0))
    ]
