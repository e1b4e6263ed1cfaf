-- `lines::variables/put_spot` meets its contract. Assumes nothing.
use Rattle.lines.proofs.StoreLaw as T
use Rattle.lines.proofs.variables.put_spot.Goals as goal

pub returns-then-k-spots : goal.returns-then-k-spots
returns-then-k-spots c = T.placed-room _ _ _

pub returns : goal.returns
returns c = T.placed-none _ _ _ c.if-k-spots.false
