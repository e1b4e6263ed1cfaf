-- `starts::is_start` meets its contract. Assumes nothing.
use borrow.Author.Rules.{rules}
use Rattle.starts.proofs.Spans as S
use Rattle.starts.proofs.is_start.Goals as goal

pub returns-then-from-to : goal.returns-then-from-to
returns-then-from-to c = search (S.no_bytes, rules)

pub returns-then-to-from-gt128 : goal.returns-then-to-from-gt128
returns-then-to-from-gt128 c = search (S.too_many, rules)

pub returns : goal.returns
returns c = search (S.all-other, rules)
