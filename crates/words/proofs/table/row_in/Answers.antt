-- `words::table/row_in` meets its contract. Assumes nothing.
use borrow.Author.Tests.{ne_eqb}
use Rattle.words.proofs.Worded.{no_word}
use Rattle.words.proofs.table.row_in.Goals as goal

pub returns-then-words-number : goal.returns-then-words-number
returns-then-words-number c = rw (no_word _ _ c.if-words-number.true)

pub returns-then-code-eq0 : goal.returns-then-code-eq0
returns-then-code-eq0 c = rw c.if-code-eq0.true

pub returns : goal.returns
returns c = rw (ne_eqb _ 0 c.if-code-eq0.false)
