-- `respelling::namespaces_text` meets its contract. Assumes nothing.
use Rattle.reading.specs.bridge.Variables.{tree_names}
use Rattle.reading.proofs.Said as Said
use Rattle.respelling.proofs.Called as C
use mathlib.Core.Logic.{inl, inr}
use Rattle.std.proofs.lemmas.Result.{err_from_is_err_and}
use Rattle.algebra.proofs.Faults.{which}
use Rattle.respelling.proofs.namespaces_text.Goals as goal

pub convert_by-requires : goal.convert_by-requires
convert_by-requires c =
    let g = Said.said-good tree_names _ _ _ _ _ _ _ c.check_tree.ensures c.in_ok-check_tree.was in (g.value, g.read)

pub returns-in_err-check_tree : goal.returns-in_err-check_tree
returns-in_err-check_tree c =
    let exit = err_from_is_err_and c.from_residual.result c.from_residual.ensures.1 in
    elim (which _ _ c.in_err-check_tree.was) [
      | inl fault ↦ rw (exit.1, exit.2, fault.1) (C.tree-malformed _ _ _ (Said.said-malformed tree_names _ _ _ _ _ _ c.check_tree.ensures fault.0))
      | inr fault ↦ rw (exit.1, exit.2, fault.1) (C.tree_over _ _ _ (Said.said-over tree_names _ _ _ _ _ _ c.check_tree.ensures fault.0))
    ]
