-- `expressing::place/try_filter` meets its contract. Assumes nothing.
use Rattle.expressing.proofs.Counted as C
use Rattle.expressing.proofs.place.try_filter.Goals as goal

pub returns : goal.returns
returns c = C.tried-is _ _ _ _ _ _ _ c.new-w.ensures.starts c.tree_to_expression-walked.ensures.walks
