-- `text::kinds/is_limit` meets its contract. Assumes nothing.
use Rattle.text.proofs.Tests as T
use Rattle.text.proofs.kinds.is_limit.Goals as goal

pub returns-then-is_integer : goal.returns-then-is_integer
returns-then-is_integer c = search T.or_left

pub returns : goal.returns
returns c = search T.or_right
