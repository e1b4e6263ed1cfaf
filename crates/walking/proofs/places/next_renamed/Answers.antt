-- `walking::places/next_renamed` meets its contract. Assumes nothing.
use mathlib.Core.Path.{refl}
use native.Mathlib.Omega.{arith}
use Rattle.walking.proofs.Spotted as L
use Rattle.walking.proofs.places.next_renamed.Goals as goal

pub loop-j-init : goal.loop-j-init
loop-j-init c = (omega arith, c.requires.1, L.unmarked-none _ _)

pub bounds-spots-j : goal.bounds-spots-j
bounds-spots-j c = let m = c.requires.0 in omega arith

pub returns-then-s-eq4 : goal.returns-then-s-eq4
returns-then-s-eq4 c = L.next_here _ _ _ _ _ c.loop-j.invariant refl c.if-s-eq4.true

pub loop-j-preserved : goal.loop-j-preserved
loop-j-preserved c =
    let inv = c.loop-j.invariant in let t = c.loop-j-test.true in (omega arith, omega arith, L.unmarked-more _ _ _ _ inv.2 refl c.if-s-eq4.false)

pub returns : goal.returns
returns c = L.next-none _ _ _ _ c.loop-j.invariant c.loop-j-test.false
