-- `placing::columns/column_at` meets its contract. Assumes nothing.
use Rattle.placing.proofs.Listed as L
use Rattle.placing.proofs.columns.column_at.Goals as goal

pub returns-then-n-k : goal.returns-then-n-k
returns-then-n-k c = L.column-none _ _ _ _ _ c.if-n-k.true

pub returns : goal.returns
returns c =
    L.column-at-is _ c.args.columns.now _ _ _ _ c.if-n-k.false c.wide.ensures c.wide-2.ensures _ c.piece.ensures
