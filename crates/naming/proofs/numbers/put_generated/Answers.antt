-- `naming::numbers/put_generated` meets its contract. Assumes nothing.
use Rattle.emit.proofs.Writing.{wrote-then, wrote-as}
use Rattle.naming.proofs.Decimals.{generated-is}
use Rattle.naming.proofs.numbers.put_generated.Goals as goal

pub returns : goal.returns
returns c = wrote-as (generated-is c.args.prefix c.args.n) (wrote-then (wrote-then c.put.ensures c.put-2.ensures) c.put_decimal.ensures)
