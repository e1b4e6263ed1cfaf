-- A decimal is written: what is left of the number, then its last two digits. Assumes nothing.
use mathlib.Core.Path.{sym}
use native.Mathlib.Omega.{arith}
use Rattle.emit.proofs.Writing.{wrote-then, wrote-as}
use Rattle.naming.proofs.Decimals.{decimal-hundreds}
use Rattle.naming.proofs.numbers.+put_decimal.Goals as goal

pub returns : goal.returns
returns t c = wrote-as (sym (decimal-hundreds c.args.n (omega arith))) (wrote-then c.put_decimal.ensures c.put_pair.ensures)
