-- `joining::forms/may_merge` meets its contract. Assumes nothing.
use mathlib.Core.Path.{refl}
use Rattle.joining.proofs.Checked as F
use Rattle.joining.proofs.forms.may_merge.Goals as goal

pub returns-then-query : goal.returns-then-query
returns-then-query c = F.may-query _ _ _ _ c.if-query.true c.is_mergeable.ensures

pub returns : goal.returns
returns c = F.may-tree _ _ _ _ c.if-query.false refl
