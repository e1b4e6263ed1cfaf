-- `heads::put_behind` meets its contract. Assumes nothing.
use Rattle.emit.proofs.Writing.{wrote-then}
use Rattle.heads.proofs.put_behind.Goals as goal

pub returns : goal.returns
returns c = wrote-then c.put_all.ensures c.put_all-2.ensures
