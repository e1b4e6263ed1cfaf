-- `emit::put_all` meets its contract. Assumes nothing.
use native.Mathlib.Omega.{arith}
use Rattle.emit.proofs.Laws.{puts-past, puts-in}
use Rattle.emit.proofs.put_all.Goals as goal

pub returns-then-at-out : goal.returns-then-at-out
returns-then-at-out c = puts-past _ _ _ _ (omega arith) (omega arith) c.past.ensures

pub returns-then-piece-out : goal.returns-then-piece-out
returns-then-piece-out c = puts-in _ _ _ _ (omega arith) (omega arith) c.copy.ensures
