-- `respelling::convert_by` meets its contract. Assumes nothing.
use Rattle.starts.proofs.Said as S
use Rattle.respelling.proofs.Called as C
use mathlib.Core.Logic.{inl, inr}
use Rattle.std.proofs.lemmas.Result.{err_from_is_err_and}
use Rattle.algebra.proofs.Faults.{which}
use Rattle.respelling.proofs.convert_by.Goals as goal

pub convert-requires : goal.convert-requires
convert-requires c = (c.requires, S.said-good _ _ _ c.check_starts.ensures _ c.in_ok-n.was)

pub returns-in_err-n : goal.returns-in_err-n
returns-in_err-n c =
    let exit = err_from_is_err_and c.from_residual.result c.from_residual.ensures.1 in
    elim (which _ _ c.in_err-n.was) [
      | inl fault ↦ rw (exit.1, exit.2, fault.1) (C.table-malformed _ _ _ c.requires.0 c.requires.1 (S.said-malformed _ _ _ c.check_starts.ensures fault.0))
      | inr fault ↦ rw (exit.1, exit.2, fault.1) (C.table-over _ _ _ c.requires.0 c.requires.1 (S.said-over _ _ _ c.check_starts.ensures fault.0))
    ]
