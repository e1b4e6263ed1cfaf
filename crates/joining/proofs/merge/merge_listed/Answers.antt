-- `joining::merge/merge_listed` meets its contract. Assumes nothing.
use Rattle.joining.proofs.Calls as Calls
use mathlib.Core.Logic.{inl, inr}
use Rattle.std.proofs.lemmas.Result.{err_from_is_err_and}
use Rattle.algebra.proofs.Faults.{which}
use Rattle.joining.proofs.merge.merge_listed.Goals as goal

pub merge_checked-requires : goal.merge_checked-requires
merge_checked-requires c =
    let p = c.requires in (p.0, p.1, Calls.lists-good _ _ _ _ _ c.check_lists.ensures c.in_ok-check_lists.was, p.2, p.3)

pub returns : goal.returns
returns c = c.merge_checked.ensures

pub returns-in_err-check_lists : goal.returns-in_err-check_lists
returns-in_err-check_lists c =
    let exit = err_from_is_err_and c.from_residual.result c.from_residual.ensures.1 in
    elim (which _ _ c.in_err-check_lists.was) [
      | inl fault ↦ rw (exit.1, exit.2, fault.1) (λ p q s t. Calls.lists-malformed _ _ _ p q _ _ _ _ _ c.check_lists.ensures fault.0)
      | inr fault ↦ rw (exit.1, exit.2, fault.1) (λ p q s t. Calls.lists-over _ _ _ p q _ _ _ _ _ c.check_lists.ensures fault.0)
    ]
