-- `naming::numbers/put_pair` meets its contract. Assumes nothing.
use Rattle.emit.proofs.Writing.{wrote-then}
use Rattle.naming.proofs.numbers.put_pair.Goals as goal

pub returns : goal.returns
returns c = wrote-then c.put.ensures c.put-2.ensures
