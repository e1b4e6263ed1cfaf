-- `renaming::rename/rename_listed` meets its contract. Assumes nothing.
use mathlib.Core.Path.{refl}
use Rattle.names.proofs.Cleared.{no_size}
use Rattle.lists.proofs.Said as Said
use Rattle.surveying.proofs.Tables as S
use Rattle.renaming.proofs.Tables as T
use Rattle.renaming.proofs.Renamed as R
use mathlib.Core.Logic.{inl, inr}
use Rattle.std.proofs.lemmas.Result.{err_from_is_err_and}
use Rattle.algebra.proofs.Faults.{which}
use Rattle.renaming.proofs.rename.rename_listed.Goals as goal

pub check_mapping-requires : goal.check_mapping-requires
check_mapping-requires c = c.requires.1

pub find_targets-requires : goal.find_targets-requires
find_targets-requires c =
    let k = c.requires.0 in (Said.said-good _ _ _ _ c.check_mapping.ensures _ c.in_ok-pairs.was, refl, no_size 1024, S.known-named _ _ _ _ _ k.known)

pub rename_tree-requires : goal.rename_tree-requires
rename_tree-requires c = T.recorded-ready _ _ _ _ _ _ _ _ _ _ c.requires.0

pub rename_over-requires : goal.rename_over-requires
rename_over-requires c =
    (T.recorded-renamed _ _ _ _ _ _ _ _ _ _ c.requires.0 _ _ c.rename_tree.ensures, c.find_targets.ensures)

pub returns-in_err-pairs : goal.returns-in_err-pairs
returns-in_err-pairs c =
    let exit = err_from_is_err_and c.from_residual.result c.from_residual.ensures.1 in
    elim (which _ _ c.in_err-pairs.was) [
      | inl fault ↦ rw (exit.1, exit.2, fault.1) (R.mapping-malformed _ _ _ _ _ c.requires.0.known _ _ (Said.said-malformed _ _ _ _ c.check_mapping.ensures fault.0))
      | inr fault ↦ rw (exit.1, exit.2, fault.1) (R.mapping-over _ _ _ _ _ c.requires.0.known _ _ (Said.said-over _ _ _ _ c.check_mapping.ensures fault.0))
    ]
