-- `text::kinds/is_name` meets its contract. Assumes nothing.
use Rattle.text.proofs.Tests as T
use Rattle.text.proofs.kinds.is_name.Goals as goal

pub returns-then-is_iri : goal.returns-then-is_iri
returns-then-is_iri c = search T.or_left

pub returns : goal.returns
returns c = search T.or_right
