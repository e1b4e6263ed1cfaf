-- `names::add_name` meets its contract. Assumes nothing.
use Rattle.names.proofs.add_name.Goals as goal

pub returns : goal.returns
returns c = c.keep_name-l.ensures.by_index
