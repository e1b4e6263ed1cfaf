-- `joining::merge/merge_left` meets its contract. Assumes nothing.
use Prim.Native.Nat.{◌/◌}
use mathlib.Core.Path.{sym}
use lib.ListN.{length, drop}
use Rattle.answers.proofs.Answers as A
use Rattle.projects.proofs.Known as KN
use Rattle.projects.proofs.Halves as H
use Rattle.joining.proofs.Checked as F
use Rattle.joining.proofs.Calls as Calls
use mathlib.Core.Logic.{inl, inr}
use Rattle.std.proofs.lemmas.Result.{err_from_is_err_and}
use Rattle.algebra.proofs.Faults.{which}
use Rattle.joining.proofs.merge.merge_left.Goals as goal

pub slice_bounds-note_form-end-2 : goal.slice_bounds-note_form-end-2
slice_bounds-note_form-end-2 c = sym (KN.taken-long _ _ (H.half-low c.args.spots.now))

pub slice_bounds-note_form-end-4 : goal.slice_bounds-note_form-end-4
slice_bounds-note_form-end-4 c = sym (KN.taken-long _ _ (H.half-low c.args.nodes.now))

pub merge_right-requires : goal.merge_right-requires
merge_right-requires c =
    let p = c.requires in let g = F.as-good _ _ _ _ _ _ _ _ _ _ c.note_form.ensures _ _ _ c.in_ok-noted.was in let w = (F.half-for c.args.left.now c.args.spots.now c.args.nodes.now p.0) in let more = drop (length c.args.spots.now / 2) c.args.spots.now in let others = drop (length c.args.nodes.now / 2) c.args.nodes.now in let high = F.front-high g w c.note_form.auto.nodes more others in ((g.said, F.stands_set _ _ c.new_tables-tables.result c.note_form.new.table _ _ c.new_tables-tables.ensures (F.front-stands g w c.note_form.auto.nodes more others _ _ c.text_of-stands.ensures c.place_of-from.ensures), (F.good-head g w _ c.piece.ensures)), F.left-for c.args.right.now c.args.spots.now c.args.nodes.now p.1 c.note_form.new.spots c.note_form.new.nodes c.note_form.auto.spots c.note_form.auto.nodes _ _ (F.good-few g w) (F.good-nodes g w c.note_form.auto.nodes), c.all_words-words.ensures, F.front-shaped g w c.note_form.auto.nodes more others, F.still-two c.new_tables-tables.result c.note_form.new.table c.new_tables-tables.ensures, high.0, high.1)

pub returns : goal.returns
returns c =
    let p = c.requires in let g = F.as-good _ _ _ _ _ _ _ _ _ _ c.note_form.ensures _ _ _ c.in_ok-noted.was in let w = (F.half-for c.args.left.now c.args.spots.now c.args.nodes.now p.0) in let more = drop (length c.args.spots.now / 2) c.args.spots.now in let others = drop (length c.args.nodes.now / 2) c.args.nodes.now in A.answered _ _ _ _ c.merge_right.result (Calls.left-read _ _ _ _ _ _ _ c.args.out.now g.said g.read) (c.merge_right.ensures g.said (F.stands_set _ _ c.new_tables-tables.result c.note_form.new.table _ _ c.new_tables-tables.ensures (F.front-stands g w c.note_form.auto.nodes more others _ _ c.text_of-stands.ensures c.place_of-from.ensures)) (F.good-head g w _ c.piece.ensures))

pub returns-in_err-noted : goal.returns-in_err-noted
returns-in_err-noted c =
    let exit = err_from_is_err_and c.from_residual.result c.from_residual.ensures.1 in
    elim (which _ _ c.in_err-noted.was) [
      | inl fault ↦ rw (exit.1, exit.2, fault.1) (Calls.left-malformed _ _ _ _ _ _ _ _ (F.as-malformed _ _ _ _ _ _ _ _ _ _ c.note_form.ensures fault.0))
      | inr fault ↦ rw (exit.1, exit.2, fault.1) (Calls.left_over _ _ _ _ _ _ _ _ (F.as-over _ _ _ _ _ _ _ _ _ _ c.note_form.ensures fault.0))
    ]
