-- `names::place` meets its contract. Assumes nothing.
use borrow.Author.Rules.{rules}
use Rattle.names.proofs.Laws as L
use Rattle.names.proofs.place.Goals as goal

pub returns : goal.returns
returns c = (L.place_is _ _ c.hash.ensures.0, search rules)
