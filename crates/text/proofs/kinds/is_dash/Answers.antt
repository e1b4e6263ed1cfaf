-- `text::kinds/is_dash` meets its contract. Assumes nothing.
use borrow.Author.Rules.{rules}
use Rattle.text.proofs.Tests as T
use Rattle.text.specs.Field.{is_dash}
use Rattle.text.proofs.kinds.is_dash.Goals as goal

pub returns-then-f-ne1 : goal.returns-then-f-ne1
unfolding is_dash
returns-then-f-ne1 c = search T.equal-stop

pub bounds-f-0 : goal.bounds-f-0
unfolding is_dash
bounds-f-0 c = search rules

pub returns : goal.returns
unfolding is_dash
returns c = search T.equal-go
