-- `joining::forms/start_of` meets its contract. Assumes nothing.
use mathlib.Core.Path.{refl}
use Rattle.joining.proofs.Checked as F
use Rattle.joining.proofs.forms.start_of.Goals as goal

pub returns-then-query : goal.returns-then-query
returns-then-query c = F.starts-query _ _ _ c.if-query.true c.tree_start.ensures

pub returns : goal.returns
returns c = F.starts-tree _ _ _ c.if-query.false refl
