-- `text::kinds/is_plain` meets its contract. Assumes nothing.
use Rattle.text.proofs.Tests as T
use Rattle.text.proofs.kinds.is_plain.Goals as goal

pub returns-then-is_var : goal.returns-then-is_var
returns-then-is_var c = search T.or_left

pub returns : goal.returns
returns c = search T.or_right
