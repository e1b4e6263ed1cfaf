-- `projects::merge/merge_found` meets its contract. Assumes nothing.
use borrow.Author.Rules.{rules}
use mathlib.Core.Path.{sym}
use mathlib.Core.Bool.{true, false}
use native.Mathlib.Nat.{le_refl}
use native.Mathlib.Omega.{arith}
use Rattle.names.proofs.Cleared.{no_size}
use Rattle.projects.proofs.Known as KN
use Rattle.projects.proofs.Halves as H
use Rattle.projects.proofs.Outcomes as O
use Rattle.projects.proofs.OneSide as OS
use Rattle.projects.proofs.merge.merge_found.Goals as goal

pub slice_bounds-name_found-end : goal.slice_bounds-name_found-end
slice_bounds-name_found-end c = sym (KN.taken-long _ _ c.requires.2.nodes_high)

pub slice_bounds-name_found-end-2 : goal.slice_bounds-name_found-end-2
slice_bounds-name_found-end-2 c = c.requires.2.spots_high

pub slice_bounds-name_found-end-3 : goal.slice_bounds-name_found-end-3
slice_bounds-name_found-end-3 c = sym (KN.taken-long _ _ c.requires.2.spots_high)

pub name_found-requires : goal.name_found-requires
name_found-requires c =
    let p = c.requires in (search rules, no_size 1024, (false, c.args.left_constants.now, p.0.0, p.0.2, p.0.3, p.0.5), p.1, p.2.left)

pub shape_of-spots-then-not-name_found : goal.shape_of-spots-then-not-name_found
shape_of-spots-then-not-name_found c = H.front_long _ _ c.requires.2.spots_high c.name_found.new.spots c.name_found.auto.spots

pub returns-then-not-name_found : goal.returns-then-not-name_found
returns-then-not-name_found c =
    λ x y js ks ls ld rd. O.left-repeated _ c.args.head.now x y js ks ls ld.joins-inside rd.joins-inside ld.terms_inside rd.terms_inside c.args.out.now (OS.refused _ _ _ _ _ _ _ _ _ _ _ _ (c.name_found.ensures _ _ x js ks ld) c.if-not-name_found.true-raw)

pub offset_bounds-nodes-m : goal.offset_bounds-nodes-m
offset_bounds-nodes-m c = let g = c.well_formed in let p = c.requires.2.nodes_high in omega (arith, g, p)

pub slice_bounds-name_found-count : goal.slice_bounds-name_found-count
slice_bounds-name_found-count c = c.requires.2.nodes_high

pub slice_bounds-name_found-start : goal.slice_bounds-name_found-start
slice_bounds-name_found-start c = c.requires.2.nodes_high

pub slice_bounds-name_found-end-4 : goal.slice_bounds-name_found-end-4
slice_bounds-name_found-end-4 c = le_refl _

pub offset_bounds-spots-k : goal.offset_bounds-spots-k
offset_bounds-spots-k c = let g = c.well_formed in let p = c.requires.2.spots_high in omega (arith, g, p)

pub slice_bounds-name_found-count-2 : goal.slice_bounds-name_found-count-2
slice_bounds-name_found-count-2 c = H.still-high _ _ c.requires.2.spots_high c.name_found.new.spots c.name_found.auto.spots

pub slice_bounds-name_found-start-2 : goal.slice_bounds-name_found-start-2
slice_bounds-name_found-start-2 c = H.still-high _ _ c.requires.2.spots_high c.name_found.new.spots c.name_found.auto.spots

pub slice_bounds-name_found-end-5 : goal.slice_bounds-name_found-end-5
slice_bounds-name_found-end-5 c = le_refl _

pub name_found-requires-2 : goal.name_found-requires-2
name_found-requires-2 c =
    let p = c.requires in let a = c.name_found.new.spots in let k = c.name_found.auto.spots in (search rules, no_size 1024, (true, c.args.right_constants.now, p.0.1, p.0.2, p.0.4, OS.found_in (sym (H.rest-stays _ _ p.2.spots_high a k)) p.0.6), p.1, H.shaped-stays _ _ p.2.spots_high a k _ _ _ p.2)

pub shape_of-spots-then-not-name_found-2 : goal.shape_of-spots-then-not-name_found-2
shape_of-spots-then-not-name_found-2 c =
    H.both_long _ _ c.requires.2.spots_high c.name_found.new.spots c.name_found.auto.spots c.name_found-2.new.spots c.name_found-2.auto.spots

pub returns-then-not-name_found-2 : goal.returns-then-not-name_found-2
returns-then-not-name_found-2 c =
    let h = c.requires.2.spots_high in let a = c.name_found.new.spots in let k = c.name_found.auto.spots in λ x y js ks ls ld rd. O.right-repeated _ c.args.head.now x y js ks ls ld.joins-inside rd.joins-inside ld.terms_inside rd.terms_inside c.args.out.now (OS.refused _ _ _ _ _ _ _ _ _ _ _ _ (c.name_found-2.ensures _ _ y js ls (OS.found_in (sym (H.rest-stays _ _ h a k)) rd)) c.if-not-name_found-2.true-raw)

pub merge_ready-requires : goal.merge_ready-requires
merge_ready-requires c =
    let t = c.requires.0 in let h = c.requires.2.spots_high in let a = c.name_found.new.spots in let k = c.name_found.auto.spots in let b = c.name_found-2.new.spots in ((t.0, t.1, t.2, t.3, t.4, OS.named_in (H.left-now _ _ h a k b) (OS.named _ _ _ _ _ _ _ _ _ _ _ _ (c.name_found.ensures _ _ _ _ _ t.5) c.if-not-name_found.false-raw), OS.named_in (H.right-now _ _ h a k b) (OS.named _ _ _ _ _ _ _ _ _ _ _ _ (c.name_found-2.ensures _ _ _ _ _ (OS.found_in (sym (H.rest-stays _ _ h a k)) t.6)) c.if-not-name_found-2.false-raw)), H.both_high _ _ h a k b c.name_found-2.auto.spots)

pub shape_of-spots : goal.shape_of-spots
shape_of-spots c =
    H.both_long _ _ c.requires.2.spots_high c.name_found.new.spots c.name_found.auto.spots c.name_found-2.new.spots c.name_found-2.auto.spots

pub returns : goal.returns
returns c =
    let h = c.requires.2.spots_high in let a = c.name_found.new.spots in let k = c.name_found.auto.spots in let b = c.name_found-2.new.spots in λ x y js ks ls ld rd. c.merge_ready.ensures x y js ks ls (OS.named_in (H.left-now _ _ h a k b) (OS.named _ _ _ _ _ _ _ _ _ _ _ _ (c.name_found.ensures _ _ x js ks ld) c.if-not-name_found.false-raw)) (OS.named_in (H.right-now _ _ h a k b) (OS.named _ _ _ _ _ _ _ _ _ _ _ _ (c.name_found-2.ensures _ _ y js ls (OS.found_in (sym (H.rest-stays _ _ h a k)) rd)) c.if-not-name_found-2.false-raw))
