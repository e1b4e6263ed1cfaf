-- `text::kinds/is_form` meets its contract. Assumes nothing.
use borrow.Author.Rules.{rules}
use Rattle.text.proofs.Tests as T
use Rattle.text.specs.Field.{is_form}
use Rattle.text.proofs.kinds.is_form.Goals as goal

pub equal-requires : goal.equal-requires
unfolding is_form
equal-requires c = search rules

pub returns-then-equal : goal.returns-then-equal
unfolding is_form
returns-then-equal c = search T.or_left

pub equal-requires-2 : goal.equal-requires-2
unfolding is_form
equal-requires-2 c = search rules

pub returns-then-equal-2 : goal.returns-then-equal-2
unfolding is_form
returns-then-equal-2 c = search (T.or_right, T.or_left)

pub equal-requires-3 : goal.equal-requires-3
unfolding is_form
equal-requires-3 c = search rules

pub returns-then-equal-3 : goal.returns-then-equal-3
unfolding is_form
returns-then-equal-3 c = search (T.or_right, T.or_left)

pub equal-requires-4 : goal.equal-requires-4
unfolding is_form
equal-requires-4 c = search rules

pub returns : goal.returns
unfolding is_form
returns c = search T.or_right
