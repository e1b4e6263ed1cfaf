-- `starts::shared` meets its contract. Assumes nothing.
use native.Mathlib.Omega.{arith}
use Rattle.starts.proofs.Compared as C
use Rattle.starts.proofs.shared.Goals as goal

pub returns-then-a-i : goal.returns-then-a-i
returns-then-a-i c =
    record { first = omega arith; second = omega arith; alike = c.loop-i.invariant; parted = λ x y. c.if-a-i.true }

pub returns : goal.returns
returns c = C.shares-all _ _ _ _ (omega arith) (omega arith) (omega arith) c.loop-i-test.false c.loop-i.invariant
