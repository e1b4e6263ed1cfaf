-- `joining::push/push_with` meets its contract. Assumes nothing.
use mathlib.Core.Path.{sym}
use mathlib.Core.Bool.{true}
use Rattle.answers.proofs.Answers as A
use Rattle.projects.proofs.Known as KN
use Rattle.joining.proofs.Checked as F
use Rattle.joining.proofs.Calls as Calls
use mathlib.Core.Logic.{inl, inr}
use Rattle.std.proofs.lemmas.Result.{err_from_is_err_and}
use Rattle.algebra.proofs.Faults.{which}
use Rattle.joining.proofs.push.push_with.Goals as goal

pub note_form-requires : goal.note_form-requires
note_form-requires c = (c.requires.1, c.start_of-start.ensures, c.text_of-stands.ensures)

pub slice_bounds-push_by-end : goal.slice_bounds-push_by-end
slice_bounds-push_by-end c =
    let p = c.requires in let g = F.as-good _ _ _ _ _ _ _ _ _ _ c.note_form.ensures _ _ _ c.in_ok-noted.was in F.good-nodes g p.0 c.note_form.auto.nodes

pub slice_bounds-push_by-end-2 : goal.slice_bounds-push_by-end-2
slice_bounds-push_by-end-2 c =
    let p = c.requires in let g = F.as-good _ _ _ _ _ _ _ _ _ _ c.note_form.ensures _ _ _ c.in_ok-noted.was in sym (KN.taken-long _ _ (F.good-nodes g p.0 c.note_form.auto.nodes))

pub slice_bounds-push_by-end-3 : goal.slice_bounds-push_by-end-3
slice_bounds-push_by-end-3 c =
    let p = c.requires in let g = F.as-good _ _ _ _ _ _ _ _ _ _ c.note_form.ensures _ _ _ c.in_ok-noted.was in F.good-few g p.0

pub slice_bounds-push_by-end-4 : goal.slice_bounds-push_by-end-4
slice_bounds-push_by-end-4 c =
    let p = c.requires in let g = F.as-good _ _ _ _ _ _ _ _ _ _ c.note_form.ensures _ _ _ c.in_ok-noted.was in sym (KN.taken-long _ _ (F.good-few g p.0))

pub push_by-requires : goal.push_by-requires
push_by-requires c =
    let p = c.requires in let g = F.as-good _ _ _ _ _ _ _ _ _ _ c.note_form.ensures _ _ _ c.in_ok-noted.was in ((g.said, (F.good-stands g p.0 _ _ c.text_of-stands.ensures c.place_of-from.ensures), (F.good-head g p.0 _ c.piece.ensures)), p.1, F.good-shaped g p.0 c.note_form.auto.nodes)

pub returns : goal.returns
returns c =
    let p = c.requires in let g = F.as-good _ _ _ _ _ _ _ _ _ _ c.note_form.ensures _ _ _ c.in_ok-noted.was in A.answered _ _ _ _ c.push_by.result (Calls.push-read _ _ c.args.out.now g.said g.read) (c.push_by.ensures g.said (F.good-stands g p.0 _ _ c.text_of-stands.ensures c.place_of-from.ensures) (F.good-head g p.0 _ c.piece.ensures))

pub returns-in_err-noted : goal.returns-in_err-noted
returns-in_err-noted c =
    let exit = err_from_is_err_and c.from_residual.result c.from_residual.ensures.1 in
    elim (which _ _ c.in_err-noted.was) [
      | inl fault ↦ rw (exit.1, exit.2, fault.1) (Calls.push-malformed _ _ _ (F.as-malformed _ _ _ _ _ _ _ _ true _ c.note_form.ensures fault.0))
      | inr fault ↦ rw (exit.1, exit.2, fault.1) (Calls.push-over _ _ _ (F.as-over _ _ _ _ _ _ _ _ true _ c.note_form.ensures fault.0))
    ]
