-- `names::hash_four` meets its contract. Assumes nothing.
use borrow.Author.Rules.{rules}
use Rattle.names.proofs.Laws as L
use Rattle.names.proofs.hash_four.Goals as goal

pub returns : goal.returns
returns c =
    (L.hash-four _ c.args.i c.args.h _ _ _ _ c.requires.0 c.byte.ensures.0 c.byte-b.ensures.0 c.byte-c.ensures.0 c.byte-d.ensures.0, search rules)
