-- `joining::forms/note_alone` meets its contract. Assumes nothing.
use Rattle.reading.specs.bridge.Variables.{query_names}
use Rattle.reading.proofs.Said as Said
use Rattle.joining.proofs.Checked as F
use mathlib.Core.Logic.{inl, inr}
use Rattle.std.proofs.lemmas.Result.{err_from_is_err_and}
use Rattle.algebra.proofs.Faults.{which}
use Rattle.joining.proofs.forms.note_alone.Goals as goal

pub returns : goal.returns
returns c =
    let g = Said.said-good query_names _ _ _ _ _ _ _ c.check_query.ensures c.in_ok-check_query.was in let p = c.requires in F.form-empty _ _ _ _ _ _ _ _ _ _ _ p.1 p.2 g.value g.read p.3 c.note_tree.ensures

pub returns-in_err-check_query : goal.returns-in_err-check_query
returns-in_err-check_query c =
    let exit = err_from_is_err_and c.from_residual.result c.from_residual.ensures.1 in
    elim (which _ _ c.in_err-check_query.was) [
      | inl fault ↦ rw (exit.1, exit.2, fault.1) (F.form-malformed _ _ _ _ _ _ _ _ (Said.said-malformed query_names _ _ _ _ _ _ c.check_query.ensures fault.0))
      | inr fault ↦ rw (exit.1, exit.2, fault.1) (F.form-over _ _ _ _ _ _ _ _ (Said.said-over query_names _ _ _ _ _ _ c.check_query.ensures fault.0))
    ]
