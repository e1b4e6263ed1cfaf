-- `spelling::before/put_columns` meets its contract. Assumes nothing.
use Rattle.spelling.proofs.Fielded as F
use Rattle.spelling.proofs.before.put_columns.Goals as goal

pub put_variables-b-requires : goal.put_variables-b-requires
put_variables-b-requires c = c.requires

pub returns : goal.returns
returns c = F.three _ _ _ _ _ _ _ c.put_all-a.ensures c.put_variables-b.ensures c.put_all.ensures
