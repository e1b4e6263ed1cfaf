-- `reader::next_end` meets its contract. Assumes nothing.
use borrow.Author.Rules.{rules}
use Rattle.reader.specs.bridge.Lines.{EndsAt}
use Rattle.reader.proofs.next_end.Goals as goal

pub end_from-requires : goal.end_from-requires
unfolding EndsAt
end_from-requires c = search rules

pub returns : goal.returns
unfolding EndsAt
returns c = c.end_from.ensures c.requires
