-- `placing::field/field_at` meets its contract. Assumes nothing.
use native.Mathlib.Omega.{arith}
use Rattle.placing.proofs.Next as F
use Rattle.placing.proofs.field.field_at.Goals as goal

pub returns-then-end-at : goal.returns-then-end-at
returns-then-end-at c = F.field-none _ _ _ c.if-end-at.true c.requires.1

pub returns : goal.returns
returns c = F.field-here _ _ _ _ c.requires.0 (omega arith) c.field_end-to.ensures
