-- `starts::table_number` meets its contract. Assumes nothing.
use mathlib.Core.Path.{ap, ◌∙◌}
use Rattle.std.specs.Prelude.{Err}
use Rattle.starts.proofs.Said as S
use Rattle.starts.proofs.table_number.Goals as goal

pub order_number-requires : goal.order_number-requires
order_number-requires c = S.said-good _ _ _ c.check_starts.ensures _ c.in-Ok.is

pub returns-in-Err-Malformed : goal.returns-in-Err-Malformed
returns-in-Err-Malformed c = S.number-malformed _ (S.said-malformed _ _ _ c.check_starts.ensures (c.in-Err-Malformed.is ∙ ap Err c.in-Err-Malformed.field-0-is))

pub returns-in-Err-OverBound : goal.returns-in-Err-OverBound
returns-in-Err-OverBound c = S.number-over _ (S.said-over _ _ _ c.check_starts.ensures (c.in-Err-OverBound.is ∙ ap Err c.in-Err-OverBound.field-0-is))
