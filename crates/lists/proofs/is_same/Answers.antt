-- `lists::is_same` meets its contract. Assumes nothing.
use mathlib.Core.Path.{sym}
use native.Mathlib.Omega.{arith}
use Rattle.text.proofs.Lists.{same-long}
use Rattle.lists.proofs.Keys as K
use Rattle.lists.proofs.is_same.Goals as goal

pub returns-then-f-g : goal.returns-then-f-g
returns-then-f-g c = sym (same-long _ _ c.if-f-g.true)

pub returns-then-f-eq0 : goal.returns-then-f-eq0
returns-then-f-eq0 c = K.same_none _ _ c.if-f-eq0.true (omega arith)

pub returns-then-f-last : goal.returns-then-f-last
returns-then-f-last c = K.same_differs _ _ _ c.if-f-last.true
