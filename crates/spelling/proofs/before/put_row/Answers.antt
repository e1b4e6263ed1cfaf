-- `spelling::before/put_row` meets its contract. Assumes nothing.
use Rattle.spelling.proofs.Fielded as F
use Rattle.spelling.proofs.before.put_row.Goals as goal

pub put_cells-b-requires : goal.put_cells-b-requires
put_cells-b-requires c = c.requires

pub returns : goal.returns
returns c = F.three _ _ _ _ _ _ _ c.put_all-a.ensures c.put_cells-b.ensures c.put_all.ensures
