-- `surveying::scope/put_scope` meets its contract. Assumes nothing.
use Rattle.emit.proofs.Writing.{wrote-then, wrote-as}
use Rattle.surveying.proofs.Lists as L
use Rattle.surveying.proofs.scope.put_scope.Goals as goal

pub returns : goal.returns
returns c =
    wrote-as (L.two-lines _ _)
    (wrote-then (wrote-then (wrote-then (wrote-then (wrote-then c.put_all.ensures c.put_names.ensures) c.put.ensures) c.put_all-2.ensures) c.put_names-2.ensures) c.put-2.ensures)
