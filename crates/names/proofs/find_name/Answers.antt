-- `names::find_name` meets its contract. Assumes nothing.
use Rattle.names.proofs.find_name.Goals as goal

pub returns : goal.returns
returns c = c.probe-r.ensures.result_le_n
