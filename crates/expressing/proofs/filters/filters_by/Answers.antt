-- `expressing::filters/filters_by` meets its contract. Assumes nothing.
use Rattle.reading.specs.bridge.Variables.{filter_names}
use Rattle.reading.proofs.Said as Said
use Rattle.expressing.proofs.Whole as Wh
use mathlib.Core.Logic.{inl, inr}
use Rattle.std.proofs.lemmas.Result.{err_from_is_err_and}
use Rattle.algebra.proofs.Faults.{which}
use Rattle.expressing.proofs.filters.filters_by.Goals as goal

pub filters_of-requires : goal.filters_of-requires
filters_of-requires c =
    let p = c.requires in let g = Said.said-good filter_names _ _ _ _ _ _ _ c.check_filters.ensures c.in_ok-check_filters.was in (p.0, (g.value, g.read), p.1)

pub returns-in_err-check_filters : goal.returns-in_err-check_filters
returns-in_err-check_filters c =
    let exit = err_from_is_err_and c.from_residual.result c.from_residual.ensures.1 in
    elim (which _ _ c.in_err-check_filters.was) [
      | inl fault ↦ rw (exit.1, exit.2, fault.1) (let p = c.requires.0 in Wh.filters-malformed _ _ _ _ p.0 p.1 (Said.said-malformed filter_names _ _ _ _ _ _ c.check_filters.ensures fault.0))
      | inr fault ↦ rw (exit.1, exit.2, fault.1) (let p = c.requires.0 in Wh.filters-over _ _ _ _ p.0 p.1 (Said.said-over filter_names _ _ _ _ _ _ c.check_filters.ensures fault.0))
    ]
