-- `naming::pushes/base_at` meets its contract. Assumes nothing.
use Rattle.names.specs.bridge.Names.{starts_of, sizes_of}
use Rattle.names.proofs.Columns as R
use Rattle.naming.proofs.Book as L
use Rattle.naming.proofs.pushes.base_at.Goals as goal

pub returns : goal.returns
returns c =
    L.base-at _ (starts_of c.args.table.now) (sizes_of c.args.table.now) c.args.k _ _ _ _ (R.column-is 0 c.args.table.now c.args.k _ c.wide-from.ensures.0, c.wide-from.ensures.1) (R.column-is 1 c.args.table.now c.args.k _ c.wide-size.ensures.0, c.wide-size.ensures.1) c.piece.ensures c.base_size.ensures
