-- `emit::copy` meets its contract. Assumes nothing.
use native.Mathlib.Nat.{add-zero}
use native.Mathlib.Omega.{arith}
use mathlib.Core.Path.{refl, sym, ◌∙◌}
use Rattle.emit.proofs.Laws.{sets-next, sets-done}
use lib.ListN.{length-set}
use Rattle.emit.proofs.copy.Goals as goal

pub loop-i-init : goal.loop-i-init
loop-i-init c = (omega arith, refl, rw add-zero)

pub loop-i-preserved : goal.loop-i-preserved
loop-i-preserved c =
    (omega arith, simp length-set c.loop-i.invariant.1, sets-next c.args.piece.now c.args.at c.loop-i.i c.loop-i.out (omega arith) ∙ c.loop-i.invariant.2)

pub returns : goal.returns
returns c =
    sym (sets-done c.args.piece.now c.args.at c.loop-i.i c.loop-i.out c.loop-i-test.false) ∙ c.loop-i.invariant.2
