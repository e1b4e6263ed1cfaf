-- `text::kinds/is_datatype` meets its contract. Assumes nothing.
use borrow.Author.Rules.{rules}
use Rattle.text.proofs.Tests as T
use Rattle.text.specs.Field.{is_datatype}
use Rattle.text.proofs.kinds.is_datatype.Goals as goal

pub is_iri-requires : goal.is_iri-requires
unfolding is_datatype
is_iri-requires c = search rules

pub returns-then-not-is_iri : goal.returns-then-not-is_iri
unfolding is_datatype
returns-then-not-is_iri c = search T.and-stop!

pub equal-requires : goal.equal-requires
unfolding is_datatype
equal-requires c = search rules

pub returns-then-equal : goal.returns-then-equal
unfolding is_datatype
returns-then-equal c = search (T.and-go!, T.not-stop)

pub equal-requires-2 : goal.equal-requires-2
unfolding is_datatype
equal-requires-2 c = search rules

pub returns-then-equal-2 : goal.returns-then-equal-2
unfolding is_datatype
returns-then-equal-2 c = search (T.and-go!, T.not-go, T.not_same)

pub returns : goal.returns
unfolding is_datatype
returns c = search (T.and-go!, T.not-go, T.not-other)
