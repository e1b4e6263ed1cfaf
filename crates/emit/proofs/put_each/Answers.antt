-- `emit::put_each` meets its contract. Assumes nothing.
use native.Mathlib.Omega.{arith}
use mathlib.Core.Path.{refl, sym, ◌∙◌}
use Rattle.emit.specs.bridge.Emit.{em}
use Rattle.emit.proofs.Laws.{puts-next, puts-done}
use Rattle.emit.proofs.put_each.Goals as goal

pub loop-i-init : goal.loop-i-init
loop-i-init c = (omega arith, refl, refl)

pub loop-i-preserved : goal.loop-i-preserved
loop-i-preserved c =
    (omega arith, c.put-to.auto.out ∙ c.loop-i.invariant.1, puts-next c.args.piece.now c.loop-i.i _ _ (omega arith) c.put-to.ensures ∙ c.loop-i.invariant.2)

pub shape_of-out : goal.shape_of-out
shape_of-out c = c.loop-i.invariant.1

pub returns : goal.returns
returns c =
    sym (puts-done c.args.piece.now c.loop-i.i (em c.loop-i.to c.loop-i.out) c.loop-i-test.false) ∙ c.loop-i.invariant.2
