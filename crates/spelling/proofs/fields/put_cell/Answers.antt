-- `spelling::fields/put_cell` meets its contract. Assumes nothing.
use Rattle.spelling.proofs.Arms as A
use mathlib.Core.Path.{sym, ◌∙◌}
use Rattle.spelling.proofs.fields.put_cell.Goals as goal

pub returns-then-is_dash : goal.returns-then-is_dash
returns-then-is_dash c = A.arm _ _ _ _ c.put_all.ensures (A.cell-unbound _ (sym c.is_dash.ensures ∙ c.if-is_dash.true))

pub returns : goal.returns
returns c = A.arm _ _ _ _ c.put_all-2.ensures (A.cell-bound _ (sym c.is_dash.ensures ∙ c.if-is_dash.false))
