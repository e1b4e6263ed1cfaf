-- `placing::field/position_of` meets its contract. Assumes nothing.
use native.Mathlib.Omega.{arith}
use Rattle.placing.proofs.Next as F
use Rattle.placing.proofs.field.position_of.Goals as goal

pub returns-in-Some : goal.returns-in-Some
returns-in-Some c = (F.position-is _ _ c.number_of.ensures _ c.in-Some.is, omega arith)

pub returns-in-None : goal.returns-in-None
returns-in-None c = (F.position-not _ _ c.number_of.ensures c.in-None.is, omega arith)
