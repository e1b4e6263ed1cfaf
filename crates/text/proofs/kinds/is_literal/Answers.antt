-- `text::kinds/is_literal` meets its contract. Assumes nothing.
use borrow.Author.Rules.{rules}
use Rattle.text.proofs.Tests as T
use Rattle.text.specs.Field.{is_literal}
use Rattle.text.proofs.kinds.is_literal.Goals as goal

pub returns-then-f-lt1 : goal.returns-then-f-lt1
unfolding is_literal
returns-then-f-lt1 c = search T.least-stop

pub bounds-f-0 : goal.bounds-f-0
unfolding is_literal
bounds-f-0 c = search rules

pub returns : goal.returns
unfolding is_literal
returns c = search T.least-go
