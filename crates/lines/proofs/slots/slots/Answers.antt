-- `lines::slots/slots` meets its contract. Assumes nothing.
use mathlib.Core.Path.{refl, ◌∙◌}
use native.Mathlib.Omega.{arith}
use Rattle.lines.proofs.TurnLaw as T
use Rattle.lines.proofs.slots.slots.Goals as goal

pub slots_of-code-requires : goal.slots_of-code-requires
slots_of-code-requires c = c.requires.2

pub loop-code-init : goal.loop-code-init
loop-code-init c = (T.turn-begin _ _ _ _ _ _ _ _ _ _ c.requires.0 c.requires.1 c.slots_of-code.ensures.1, refl)

pub slot-t-requires : goal.slot-t-requires
slot-t-requires c = c.loop-code.invariant.0.line

pub overflow_add-i : goal.overflow_add-i
overflow_add-i c = let e = c.loop-code.invariant.0.turns in omega (arith, e)

pub loop-code-smaller : goal.loop-code-smaller
loop-code-smaller c = let z = c.loop-code-test.true in omega (arith, z)

pub loop-code-preserved : goal.loop-code-preserved
loop-code-preserved c =
    let e = c.slot-t.ensures in (T.turn-next _ _ _ _ _ _ _ _ _ _ _ _ _ _ _ _ _ _ _ _ _ c.loop-code.invariant.0 c.loop-code-test.true _ _ _ _ _ _ _ _ e.follows.0 e.follows.1 e.follows.2 e.keeps e.adds _ _ c.number_at-first.ensures c.number_at-second.ensures, c.slot-t.auto.spots ∙ c.loop-code.invariant.1)

pub shape_of-spots : goal.shape_of-spots
shape_of-spots c = c.loop-code.invariant.1

pub returns : goal.returns
returns c =
    let v = c.loop-code.invariant.0 in let z = c.loop-code-test.false in let e = c.slots_of-code.ensures.0 in record { took_slots = T.turn-took _ _ _ _ _ _ _ _ _ _ _ _ _ _ _ _ _ _ _ _ _ v z _ e c.requires.1; keeps = T.turn-keeps _ _ _ _ _ _ _ _ _ _ _ _ _ _ _ _ _ _ _ _ _ v z _ e; adds = T.turn-adds _ _ _ _ _ _ _ _ _ _ _ _ _ _ _ _ _ _ _ _ _ v z _ e }
