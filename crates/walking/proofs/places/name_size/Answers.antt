-- `walking::places/name_size` meets its contract. Assumes nothing.
use Rattle.names.proofs.Columns.{column-at}
use Rattle.walking.proofs.Spotted as L
use Rattle.walking.proofs.places.name_size.Goals as goal

pub returns : goal.returns
returns c =
    let a = c.args in rw (column-at 0 a.table.now a.entry, column-at 1 a.table.now a.entry) (L.piece-size _ _ _ _ _ _ c.wide.ensures c.wide-2.ensures c.piece.ensures)
