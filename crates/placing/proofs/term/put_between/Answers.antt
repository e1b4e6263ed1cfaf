-- `placing::term/put_between` meets its contract. Assumes nothing.
use Rattle.emit.proofs.Writing.{wrote-then}
use Rattle.placing.proofs.term.put_between.Goals as goal

pub returns : goal.returns
returns c = wrote-then (wrote-then c.put.ensures c.put_all.ensures) c.put-2.ensures
