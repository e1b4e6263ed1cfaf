-- `columns::columns/put_column` meets its contract. Assumes nothing.
use Rattle.columns.proofs.Picked as L
use Rattle.columns.proofs.columns.put_column.Goals as goal

pub returns-then-not-chosen : goal.returns-then-not-chosen
returns-then-not-chosen c = L.column-none _ c.args.chosen c.if-not-chosen.true-raw

pub returns : goal.returns
returns c = L.column-put _ c.args.chosen c.if-not-chosen.false-raw c.put.ensures c.put_new.ensures
