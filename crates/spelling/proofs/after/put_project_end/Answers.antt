-- `spelling::after/put_project_end` meets its contract. Assumes nothing.
use Rattle.spelling.proofs.Arms as A
use mathlib.Core.Path.{sym, ◌∙◌}
use Rattle.spelling.proofs.after.put_project_end.Goals as goal

pub returns-then-is_order : goal.returns-then-is_order
returns-then-is_order c = A.nothing _ _ (A.cond-none _ _ (sym c.is_order.ensures ∙ c.if-is_order.true))

pub returns : goal.returns
returns c = A.arm _ _ _ _ c.put_all.ensures (A.cond-some _ _ (sym c.is_order.ensures ∙ c.if-is_order.false))
