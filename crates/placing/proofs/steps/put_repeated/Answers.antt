-- `placing::steps/put_repeated` meets its contract. Assumes nothing.
use Rattle.emit.proofs.Writing.{wrote-then, left-all, left-as, left-next, left-none}
use Rattle.placing.proofs.Repeated as R
use Rattle.placing.proofs.steps.put_repeated.Goals as goal

pub loop-line-init : goal.loop-line-init
loop-line-init c = left-as (R.repeated-all _ _) (left-all _)

pub loop-line-preserved : goal.loop-line-preserved
loop-line-preserved c =
    left-next (left-as (R.repeated-next _ _ _ c.loop-line-test.true) c.loop-line.invariant) (wrote-then c.put_all.ensures c.put.ensures)

pub returns : goal.returns
returns c = left-none (left-as (R.repeated-done _ _ _ c.loop-line-test.false) c.loop-line.invariant)
