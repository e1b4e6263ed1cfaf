-- `surveying::scope/scope_over` meets its contract. Assumes nothing.
use Rattle.surveying.proofs.Tables as T
use Rattle.surveying.proofs.Scoped as S
use mathlib.Core.Logic.{inl, inr}
use Rattle.std.proofs.lemmas.Result.{err_from_is_err_and}
use Rattle.algebra.proofs.Faults.{which}
use Rattle.surveying.proofs.scope.scope_over.Goals as goal

pub scope_of-requires : goal.scope_of-requires
scope_of-requires c = T.good-surveyed _ _ _ _ c.args.spots.now _ _ _ _ c.note_tree.ensures _ _ _ c.requires c.in_ok-noted.was

pub returns-in_err-noted : goal.returns-in_err-noted
returns-in_err-noted c =
    let exit = err_from_is_err_and c.from_residual.result c.from_residual.ensures.1 in
    elim (which _ _ c.in_err-noted.was) [
      | inl fault ↦ rw (exit.1, exit.2, fault.1) (S.scope-malformed _ _ (T.noted-malformed _ _ _ _ _ _ _ _ _ c.note_tree.ensures fault.0))
      | inr fault ↦ rw (exit.1, exit.2, fault.1) (S.scope-over _ _ (T.noted-over _ _ _ _ _ _ _ _ _ c.note_tree.ensures fault.0))
    ]
