-- `walking::places/put_renamed` meets its contract. Assumes nothing.
use mathlib.Core.Path.{refl, ◌∙◌}
use native.Mathlib.Omega.{arith}
use Rattle.walking.proofs.Spotted as L
use Rattle.walking.proofs.places.put_renamed.Goals as goal

pub next_renamed-j-requires : goal.next_renamed-j-requires
next_renamed-j-requires c = (c.requires.2.many, c.requires.4)

pub loop-j-init : goal.loop-j-init
loop-j-init c =
    (refl, L.going_on _ _ _ _ _ _ _ _ _ c.requires.1 c.requires.2 _ _ _ _ _ _ _ _ c.requires.5 refl (L.next-is _ _ _ _ _ _ c.requires.0 c.requires.2 c.requires.3 c.next_renamed-j.ensures))

pub bounds-spots-j : goal.bounds-spots-j
bounds-spots-j c = let m = c.requires.2.many in omega arith

pub slice_bounds-put_all-count : goal.slice_bounds-put_all-count
slice_bounds-put_all-count c =
    let w = L.going-places _ _ _ _ _ _ _ _ _ c.requires.1 c.requires.2 _ _ _ _ _ _ _ c.loop-j.invariant.1 c.loop-j-test.true _ _ _ c.wide-start.ensures c.wide-entry.ensures (refl) in let x = w.0 in let y = w.1 in let z = w.2 in omega arith

pub slice_bounds-put_all-start : goal.slice_bounds-put_all-start
slice_bounds-put_all-start c =
    let w = L.going-places _ _ _ _ _ _ _ _ _ c.requires.1 c.requires.2 _ _ _ _ _ _ _ c.loop-j.invariant.1 c.loop-j-test.true _ _ _ c.wide-start.ensures c.wide-entry.ensures (refl) in let x = w.0 in let y = w.1 in let z = w.2 in omega arith

pub slice_bounds-put_all-end : goal.slice_bounds-put_all-end
slice_bounds-put_all-end c =
    let w = L.going-places _ _ _ _ _ _ _ _ _ c.requires.1 c.requires.2 _ _ _ _ _ _ _ c.loop-j.invariant.1 c.loop-j-test.true _ _ _ c.wide-start.ensures c.wide-entry.ensures (refl) in let x = w.0 in let y = w.1 in let z = w.2 in omega arith

pub put_new-requires : goal.put_new-requires
put_new-requires c =
    let l = L.inside-at _ _ _ _ c.requires.2 c.loop-j-test.true in let e = c.wide-entry.ensures in let h = c.requires.0 in omega arith

pub name_size-requires : goal.name_size-requires
name_size-requires c =
    let l = L.inside-at _ _ _ _ c.requires.2 c.loop-j-test.true in let e = c.wide-entry.ensures in let h = c.requires.0 in omega arith

pub overflow_add-done : goal.overflow_add-done
overflow_add-done c =
    let w = L.going-places _ _ _ _ _ _ _ _ _ c.requires.1 c.requires.2 _ _ _ _ _ _ _ c.loop-j.invariant.1 c.loop-j-test.true _ _ _ c.wide-start.ensures c.wide-entry.ensures c.name_size.ensures in let y = w.1 in let f = c.ranges.to in omega arith

pub next_renamed-j-requires-in-loop-j : goal.next_renamed-j-requires-in-loop-j
next_renamed-j-requires-in-loop-j c = (c.requires.2.many, omega arith)

pub loop-j-smaller : goal.loop-j-smaller
loop-j-smaller c = let x = c.next_renamed-j-in-loop-j.ensures in let a = x.low in let b = x.high in omega arith

pub loop-j-preserved : goal.loop-j-preserved
loop-j-preserved c =
    (c.put_new.ensures.same ∙ c.put_all.ensures.same ∙ c.loop-j.invariant.0, L.going_next _ _ _ _ _ _ _ _ _ c.requires.1 c.requires.2 _ _ _ _ _ _ _ c.loop-j.invariant.1 c.loop-j-test.true _ _ _ _ _ _ _ c.wide-start.ensures c.wide-entry.ensures c.name_size.ensures c.put_all.ensures.puts c.put_new.ensures.puts (L.next-is _ _ _ _ _ _ c.requires.0 c.requires.2 c.requires.3 c.next_renamed-j-in-loop-j.ensures) refl)

pub slice_bounds-put_all-count-2 : goal.slice_bounds-put_all-count-2
slice_bounds-put_all-count-2 c =
    let w = L.going-high _ _ _ _ _ _ _ _ _ c.requires.1 c.requires.2 _ _ _ _ _ _ _ c.loop-j.invariant.1 in let x = w.0 in let y = w.1 in omega arith

pub slice_bounds-put_all-start-2 : goal.slice_bounds-put_all-start-2
slice_bounds-put_all-start-2 c =
    let w = L.going-high _ _ _ _ _ _ _ _ _ c.requires.1 c.requires.2 _ _ _ _ _ _ _ c.loop-j.invariant.1 in let x = w.0 in let y = w.1 in omega arith

pub slice_bounds-put_all-end-2 : goal.slice_bounds-put_all-end-2
slice_bounds-put_all-end-2 c =
    let w = L.going-high _ _ _ _ _ _ _ _ _ c.requires.1 c.requires.2 _ _ _ _ _ _ _ c.loop-j.invariant.1 in let x = w.0 in let y = w.1 in omega arith

pub returns : goal.returns
returns c = record {
  same = c.put_all-2.ensures.same ∙ c.loop-j.invariant.0;
  is = L.going_end _ _ _ _ _ _ _ _ _ c.requires.1 c.requires.2 _ _ _ _ _ _ _ c.loop-j.invariant.1 _ c.loop-j-test.false c.put_all-2.ensures.puts;
}
