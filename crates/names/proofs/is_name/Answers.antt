-- `names::is_name` meets its contract. Assumes nothing.
use Rattle.names.proofs.Columns.{column-at}
use Rattle.names.proofs.is_name.Goals as goal

pub returns : goal.returns
returns c = let a = c.args in rw (column-at 0 a.table.now a.i, column-at 1 a.table.now a.i) cc
