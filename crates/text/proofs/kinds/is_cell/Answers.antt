-- `text::kinds/is_cell` meets its contract. Assumes nothing.
use Rattle.text.proofs.Tests as T
use Rattle.text.proofs.kinds.is_cell.Goals as goal

pub returns-then-is_constant : goal.returns-then-is_constant
returns-then-is_constant c = search T.or_left

pub returns : goal.returns
returns c = search T.or_right
