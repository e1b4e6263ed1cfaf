-- `text::kinds/is_var` meets its contract. Assumes nothing.
use borrow.Author.Rules.{rules}
use Rattle.text.proofs.Tests as T
use Rattle.text.specs.Field.{is_var}
use Rattle.text.proofs.kinds.is_var.Goals as goal

pub returns-then-f-lt2 : goal.returns-then-f-lt2
unfolding is_var
returns-then-f-lt2 c = search T.least-stop

pub returns-then-f-gt129 : goal.returns-then-f-gt129
unfolding is_var
returns-then-f-gt129 c = search (T.least-go, T.least-stop)

pub bounds-f-0 : goal.bounds-f-0
unfolding is_var
bounds-f-0 c = search rules

pub returns : goal.returns
unfolding is_var
returns c = search (T.least-go)
