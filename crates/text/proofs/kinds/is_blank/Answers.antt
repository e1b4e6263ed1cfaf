-- `text::kinds/is_blank` meets its contract. Assumes nothing.
use borrow.Author.Rules.{rules}
use Rattle.text.proofs.Tests as T
use Rattle.text.specs.Field.{is_blank}
use Rattle.text.proofs.kinds.is_blank.Goals as goal

pub returns-then-f-lt2 : goal.returns-then-f-lt2
unfolding is_blank
returns-then-f-lt2 c = search T.least-stop

pub bounds-f-0 : goal.bounds-f-0
unfolding is_blank
bounds-f-0 c = search rules

pub returns-then-f-ne95 : goal.returns-then-f-ne95
unfolding is_blank
returns-then-f-ne95 c = search (T.least-go, T.equal-stop)

pub bounds-f-1 : goal.bounds-f-1
unfolding is_blank
bounds-f-1 c = search rules

pub returns : goal.returns
unfolding is_blank
returns c = search (T.least-go, T.equal-go)
