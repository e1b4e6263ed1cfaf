-- `joining::merge/merge_right` meets its contract. Assumes nothing.
use mathlib.Core.Path.{sym}
use native.Mathlib.Omega.{arith}
use native.Mathlib.Nat.{le_refl}
use Rattle.answers.proofs.Answers as A
use Rattle.projects.proofs.Known as KN
use Rattle.projects.proofs.Halves as H
use Rattle.joining.proofs.Checked as F
use Rattle.joining.proofs.Calls as Calls
use mathlib.Core.Logic.{inl, inr}
use Rattle.std.proofs.lemmas.Result.{err_from_is_err_and}
use Rattle.algebra.proofs.Faults.{which}
use Rattle.joining.proofs.merge.merge_right.Goals as goal

pub offset_bounds-spots-k : goal.offset_bounds-spots-k
offset_bounds-spots-k c = let g = c.well_formed in let p = c.requires.5 in omega (arith, g, p)

pub slice_bounds-note_form-count : goal.slice_bounds-note_form-count
slice_bounds-note_form-count c = c.requires.5

pub slice_bounds-note_form-start : goal.slice_bounds-note_form-start
slice_bounds-note_form-start c = c.requires.5

pub slice_bounds-note_form-end : goal.slice_bounds-note_form-end
slice_bounds-note_form-end c = le_refl _

pub offset_bounds-nodes-m : goal.offset_bounds-nodes-m
offset_bounds-nodes-m c = let g = c.well_formed in let p = c.requires.6 in omega (arith, g, p)

pub slice_bounds-note_form-count-2 : goal.slice_bounds-note_form-count-2
slice_bounds-note_form-count-2 c = c.requires.6

pub slice_bounds-note_form-start-2 : goal.slice_bounds-note_form-start-2
slice_bounds-note_form-start-2 c = c.requires.6

pub slice_bounds-note_form-end-2 : goal.slice_bounds-note_form-end-2
slice_bounds-note_form-end-2 c = le_refl _

pub note_form-requires : goal.note_form-requires
note_form-requires c = (c.requires.2, c.start_of-start.ensures, c.text_of-stands.ensures)

pub overflow_add-i : goal.overflow_add-i
overflow_add-i c =
    let p = c.requires in let g = F.as-good _ _ _ _ _ _ _ _ _ _ c.note_form.ensures _ _ _ c.in_ok-right_noted.was in let q = H.cut_fits c.args.noted.spots c.args.spots.now p.5 c.note_form.new.spots c.note_form.auto.spots _ (F.good-few g p.1) in let o = c.well_formed in omega (arith, o, q)

pub overflow_add-j : goal.overflow_add-j
overflow_add-j c =
    let p = c.requires in let g = F.as-good _ _ _ _ _ _ _ _ _ _ c.note_form.ensures _ _ _ c.in_ok-right_noted.was in let q = H.cut_fits c.args.noted.nodes c.args.nodes.now p.6 c.note_form.new.nodes c.note_form.auto.nodes _ (F.good-nodes g p.1 c.note_form.auto.nodes) in let o = c.well_formed in omega (arith, o, q)

pub slice_bounds-merge_listed-end : goal.slice_bounds-merge_listed-end
slice_bounds-merge_listed-end c =
    let p = c.requires in let g = F.as-good _ _ _ _ _ _ _ _ _ _ c.note_form.ensures _ _ _ c.in_ok-right_noted.was in H.cut-room c.args.noted.nodes c.args.nodes.now p.6 c.note_form.new.nodes c.note_form.auto.nodes _ (F.good-nodes g p.1 c.note_form.auto.nodes)

pub slice_bounds-merge_listed-end-2 : goal.slice_bounds-merge_listed-end-2
slice_bounds-merge_listed-end-2 c =
    let p = c.requires in let g = F.as-good _ _ _ _ _ _ _ _ _ _ c.note_form.ensures _ _ _ c.in_ok-right_noted.was in sym (KN.taken-long _ _ (H.cut-room c.args.noted.nodes c.args.nodes.now p.6 c.note_form.new.nodes c.note_form.auto.nodes _ (F.good-nodes g p.1 c.note_form.auto.nodes)))

pub slice_bounds-merge_listed-end-3 : goal.slice_bounds-merge_listed-end-3
slice_bounds-merge_listed-end-3 c =
    let p = c.requires in let g = F.as-good _ _ _ _ _ _ _ _ _ _ c.note_form.ensures _ _ _ c.in_ok-right_noted.was in H.cut-room c.args.noted.spots c.args.spots.now p.5 c.note_form.new.spots c.note_form.auto.spots _ (F.good-few g p.1)

pub slice_bounds-merge_listed-end-4 : goal.slice_bounds-merge_listed-end-4
slice_bounds-merge_listed-end-4 c =
    let p = c.requires in let g = F.as-good _ _ _ _ _ _ _ _ _ _ c.note_form.ensures _ _ _ c.in_ok-right_noted.was in sym (KN.taken-long _ _ (H.cut-room c.args.noted.spots c.args.spots.now p.5 c.note_form.new.spots c.note_form.auto.spots _ (F.good-few g p.1)))

pub merge_listed-requires : goal.merge_listed-requires
merge_listed-requires c =
    let p = c.requires in let g = F.as-good _ _ _ _ _ _ _ _ _ _ c.note_form.ensures _ _ _ c.in_ok-right_noted.was in ((p.0.0.tree, F.stands-first _ _ c.args.tables.now c.note_form.new.table _ _ (H.cut-first c.args.noted.spots c.args.spots.now p.5 c.note_form.new.spots _) _ p.0.1), (g.said.tree, F.stands-second _ _ c.args.tables.now c.note_form.new.table _ _ (H.cut-rest c.args.noted.spots c.args.spots.now p.5 c.note_form.new.spots _) _ p.4 (F.good-stands g p.1 _ _ c.text_of-stands.ensures c.place_of-from.ensures)), p.2, H.cut-shaped _ c.args.nodes.now _ p.6 c.note_form.new.nodes _ c.args.spots.now _ p.5 c.note_form.new.spots _ p.3 (F.good-shaped g p.1 c.note_form.auto.nodes))

pub shape_of-nodes : goal.shape_of-nodes
shape_of-nodes c =
    H.whole_long c.args.noted.nodes c.args.nodes.now c.requires.6 c.note_form.new.nodes c.note_form.auto.nodes

pub shape_of-spots : goal.shape_of-spots
shape_of-spots c =
    H.cut-long c.args.noted.spots c.args.spots.now c.requires.5 c.note_form.new.spots c.note_form.auto.spots _ c.merge_listed.new.spots c.merge_listed.auto.spots

pub returns : goal.returns
returns c =
    λ a s h. let p = c.requires in let g = F.as-good _ _ _ _ _ _ _ _ _ _ c.note_form.ensures _ _ _ c.in_ok-right_noted.was in A.answered _ _ _ _ c.merge_listed.result (Calls.right-read c.args.noted.minus c.args.noted.query c.args.left.now _ _ _ _ c.args.out.now a g.said g.read _ (c.may_merge-mergeable.ensures a g.said h (F.good-head g p.1 _ c.piece.ensures)) _ (F.head-text c.args.noted.query _ a h)) (c.merge_listed.ensures a.tree g.said.tree (F.stands-first _ _ c.args.tables.now c.note_form.new.table _ _ (H.cut-first c.args.noted.spots c.args.spots.now p.5 c.note_form.new.spots _) _ s) (F.stands-second _ _ c.args.tables.now c.note_form.new.table _ _ (H.cut-rest c.args.noted.spots c.args.spots.now p.5 c.note_form.new.spots _) _ p.4 (F.good-stands g p.1 _ _ c.text_of-stands.ensures c.place_of-from.ensures)))

pub shape_of-nodes-in_err-right_noted : goal.shape_of-nodes-in_err-right_noted
shape_of-nodes-in_err-right_noted c =
    H.whole_long c.args.noted.nodes c.args.nodes.now c.requires.6 c.note_form.new.nodes c.note_form.auto.nodes

pub shape_of-spots-in_err-right_noted : goal.shape_of-spots-in_err-right_noted
shape_of-spots-in_err-right_noted c =
    H.whole_long c.args.noted.spots c.args.spots.now c.requires.5 c.note_form.new.spots c.note_form.auto.spots

pub returns-in_err-right_noted : goal.returns-in_err-right_noted
returns-in_err-right_noted c =
    let exit = err_from_is_err_and c.from_residual.result c.from_residual.ensures.1 in
    elim (which _ _ c.in_err-right_noted.was) [
      | inl fault ↦ rw (exit.1, exit.2, fault.1) (λ a s h. Calls.right-malformed _ _ c.args.left.now _ _ _ _ _ a (F.as-malformed _ _ _ _ _ _ _ _ _ _ c.note_form.ensures fault.0))
      | inr fault ↦ rw (exit.1, exit.2, fault.1) (λ a s h. Calls.right-over _ _ c.args.left.now _ _ _ _ _ a (F.as-over _ _ _ _ _ _ _ _ _ _ c.note_form.ensures fault.0))
    ]
