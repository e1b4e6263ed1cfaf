-- `text::kinds/is_flag` meets its contract. Assumes nothing.
use borrow.Author.Rules.{rules}
use Rattle.text.proofs.Tests as T
use Rattle.text.specs.Field.{is_flag}
use Rattle.text.proofs.kinds.is_flag.Goals as goal

pub returns-then-f-ne1 : goal.returns-then-f-ne1
unfolding is_flag
returns-then-f-ne1 c = search T.equal-stop

pub bounds-f-0 : goal.bounds-f-0
unfolding is_flag
bounds-f-0 c = search rules

pub returns-then-f-eq48 : goal.returns-then-f-eq48
unfolding is_flag
returns-then-f-eq48 c = search (T.equal-go, T.equal-left)

pub bounds-f-0-2 : goal.bounds-f-0-2
unfolding is_flag
bounds-f-0-2 c = search rules

pub returns : goal.returns
unfolding is_flag
returns c = search (T.equal-go, T.equal-right)
