-- `text::kinds/is_node` meets its contract. Assumes nothing.
use Rattle.text.proofs.Tests as T
use Rattle.text.proofs.kinds.is_node.Goals as goal

pub returns-then-is_plain : goal.returns-then-is_plain
returns-then-is_plain c = search T.or_left

pub returns : goal.returns
returns c = search T.or_right
