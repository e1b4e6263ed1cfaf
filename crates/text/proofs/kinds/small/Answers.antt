-- `text::kinds/small` meets its contract. Assumes nothing.
use Rattle.text.proofs.Tests as T
use Rattle.text.proofs.kinds.small.Goals as goal

pub returns-then-b-lt97 : goal.returns-then-b-lt97
returns-then-b-lt97 c = search T.least-stop

pub returns : goal.returns
returns c = search T.least-go
