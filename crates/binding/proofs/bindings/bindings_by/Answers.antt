-- `binding::bindings/bindings_by` meets its contract. Assumes nothing.
use Rattle.reading.specs.bridge.Variables.{set_names}
use Rattle.reading.proofs.Said as Said
use Rattle.binding.proofs.Whole as Wh
use mathlib.Core.Logic.{inl, inr}
use Rattle.std.proofs.lemmas.Result.{err_from_is_err_and}
use Rattle.algebra.proofs.Faults.{which}
use Rattle.binding.proofs.bindings.bindings_by.Goals as goal

pub bindings_of-requires : goal.bindings_of-requires
bindings_of-requires c =
    let g = Said.said-good set_names _ _ _ _ _ _ _ c.check_sets.ensures c.in_ok-check_sets.was in (c.requires.0, (g.value, g.read), c.requires.1)

pub returns-in_err-check_sets : goal.returns-in_err-check_sets
returns-in_err-check_sets c =
    let exit = err_from_is_err_and c.from_residual.result c.from_residual.ensures.1 in
    elim (which _ _ c.in_err-check_sets.was) [
      | inl fault ↦ rw (exit.1, exit.2, fault.1) (Wh.sets-malformed _ _ _ c.requires.0.0 c.requires.0.1 (Said.said-malformed set_names _ _ _ _ _ _ c.check_sets.ensures fault.0))
      | inr fault ↦ rw (exit.1, exit.2, fault.1) (Wh.sets_over _ _ _ c.requires.0.0 c.requires.0.1 (Said.said-over set_names _ _ _ _ _ _ c.check_sets.ensures fault.0))
    ]
