-- `answering::fields/put_fields` meets its contract. Assumes nothing.
use Rattle.emit.proofs.Writing.{wrote-then, left-all, left-as, left-next, left-none}
use Rattle.answering.proofs.Printed.{fields-next, fields-done}
use Rattle.answering.proofs.fields.put_fields.Goals as goal

pub loop-j-init : goal.loop-j-init
loop-j-init c = left-all _

pub loop-j-preserved : goal.loop-j-preserved
loop-j-preserved c =
    left-next (left-as (fields-next _ _ _ c.loop-j-test.true c.wide.ensures.0) c.loop-j.invariant) (wrote-then c.put.ensures c.put_decimal.ensures)

pub returns : goal.returns
returns c = left-none (left-as (fields-done _ _ c.loop-j-test.false) c.loop-j.invariant)
