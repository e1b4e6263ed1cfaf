-- `naming::numbers/put_small` meets its contract. Assumes nothing.
use mathlib.Core.Path.{sym}
use native.Mathlib.Omega.{arith}
use Rattle.emit.proofs.Writing.{wrote-as}
use Rattle.naming.proofs.Decimals.{decimal-small, decimal-two}
use Rattle.naming.proofs.numbers.put_small.Goals as goal

pub returns-then-n-lt10 : goal.returns-then-n-lt10
returns-then-n-lt10 c = wrote-as (sym (decimal-small c.args.n (omega arith))) c.put.ensures

pub returns : goal.returns
returns c = wrote-as (sym (decimal-two c.args.n (omega arith) (omega arith))) c.put_pair.ensures
