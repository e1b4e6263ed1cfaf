-- `walking::places/note_places` meets its contract. Assumes nothing.
use mathlib.Core.Path.{refl}
use native.Mathlib.Omega.{arith}
use Rattle.walking.proofs.Spotted as L
use Rattle.walking.proofs.places.note_places.Goals as goal

pub loop-j-init : goal.loop-j-init
loop-j-init c = (omega arith, L.noting-none _ _ _)

pub bounds-spots-j : goal.bounds-spots-j
bounds-spots-j c = let m = c.requires.many in omega arith

pub note-requires : goal.note-requires
note-requires c = let l = L.inside-at _ _ _ _ c.requires c.loop-j-test.true in let e = c.wide.ensures in omega arith

pub loop-j-preserved : goal.loop-j-preserved
loop-j-preserved c =
    (omega arith, L.noting-next _ _ _ _ _ _ _ _ c.loop-j.invariant.1 c.loop-j-test.true c.wide.ensures refl c.note.ensures)

pub returns : goal.returns
returns c = L.noting-all _ _ _ _ _ c.loop-j.invariant.1 c.loop-j-test.false
