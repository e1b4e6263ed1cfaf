-- `renaming::rename/rename_with` meets its contract. Assumes nothing.
use Rattle.surveying.proofs.Tables as S
use Rattle.renaming.proofs.Tables as T
use Rattle.renaming.proofs.Renamed as R
use mathlib.Core.Logic.{inl, inr}
use native.Mathlib.Omega.{arith}
use Rattle.std.proofs.lemmas.Result.{err_from_is_err_and}
use Rattle.algebra.proofs.Faults.{which}
use Rattle.renaming.proofs.rename.rename_with.Goals as goal

pub rename_keyed-requires : goal.rename_keyed-requires
rename_keyed-requires c = (omega arith, λ i a b. omega (arith, a, b, c.if-mapping-le128.true), T.good-recorded _ _ _ _ c.args.spots.now _ _ _ _ c.note_tree.ensures _ _ _ c.args.nodes.now c.all_words-words.ensures c.requires c.in_ok-noted.was c.note_tree.auto.nodes)

pub rename_keyed-requires-2 : goal.rename_keyed-requires-2
rename_keyed-requires-2 c = (omega arith, λ i a b. a, T.good-recorded _ _ _ _ c.args.spots.now _ _ _ _ c.note_tree.ensures _ _ _ c.args.nodes.now c.all_words-words.ensures c.requires c.in_ok-noted.was c.note_tree.auto.nodes)

pub returns-in_err-noted : goal.returns-in_err-noted
returns-in_err-noted c =
    let exit = err_from_is_err_and c.from_residual.result c.from_residual.ensures.1 in
    elim (which _ _ c.in_err-noted.was) [
      | inl fault ↦ rw (exit.1, exit.2, fault.1) (R.tree-malformed _ _ _ (S.noted-malformed _ _ _ _ _ _ _ _ _ c.note_tree.ensures fault.0))
      | inr fault ↦ rw (exit.1, exit.2, fault.1) (R.tree_over _ _ _ (S.noted-over _ _ _ _ _ _ _ _ _ c.note_tree.ensures fault.0))
    ]
