-- `answering::put_refusal` meets its contract. Assumes nothing.
use Rattle.std.proofs.Common.{rules}
use native.Mathlib.Omega.{arith}
use Rattle.emit.proofs.Writing.{wrote-then, wrote-as, wrote-from}
use Rattle.answering.proofs.Printed.{line-is, front}
use Rattle.answering.proofs.put_refusal.Goals as goal

pub returns : goal.returns
returns c =
    let g = c.well_formed in
    let e = wrote-from (wrote-as (line-is c.args.number) (wrote-then (wrote-then c.put_all.ensures c.put_decimal.ensures) c.put.ensures)) c.new-w.ensures.starts in
    front _ _ c.args.out.now _ (search rules) (omega (arith, g))
