-- `phrasing::verdict/row` meets its contract. Assumes nothing.
use Rattle.phrasing.proofs.verdict.row.Goals as goal

pub all_cells-requires : goal.all_cells-requires
all_cells-requires c = c.requires

pub returns : goal.returns
returns c = cc
