-- `surveying::scope/put_name` meets its contract. Assumes nothing.
use Rattle.names.specs.bridge.Names.{starts_of, sizes_of}
use Rattle.names.proofs.Columns.{column-is}
use Rattle.surveying.proofs.Lists as L
use Rattle.surveying.proofs.scope.put_name.Goals as goal

pub returns-then-flag-eq0 : goal.returns-then-flag-eq0
returns-then-flag-eq0 c = L.name-none _ _ c.if-flag-eq0.true

pub returns : goal.returns
returns c =
    L.name-put _ _ _ c.if-flag-eq0.false c.put.ensures c.put_all.ensures (L.name-at c.args.tree.now (starts_of c.args.table.now) (sizes_of c.args.table.now) c.args.k _ _ _ (column-is 0 c.args.table.now c.args.k _ c.wide.ensures) (column-is 1 c.args.table.now c.args.k _ c.wide-2.ensures) c.piece.ensures)
