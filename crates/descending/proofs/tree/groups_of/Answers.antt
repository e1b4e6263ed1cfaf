-- `descending::tree/groups_of` meets its contract. Assumes nothing.
use Rattle.descending.proofs.ByNumber as L
use Rattle.descending.proofs.tree.groups_of.Goals as goal

pub returns-then-words-number : goal.returns-then-words-number
returns-then-words-number c = L.no_word c.args.words.now _ c.if-words-number.true
