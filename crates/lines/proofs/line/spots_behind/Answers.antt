-- `lines::line/spots_behind` meets its contract. Assumes nothing.
use Rattle.lines.proofs.StoreLaw as T
use Rattle.lines.proofs.line.spots_behind.Goals as goal

pub returns-then-flag-eq2 : goal.returns-then-flag-eq2
returns-then-flag-eq2 c = T.flag-on _ _ _ c.if-flag-eq2.true

pub returns : goal.returns
returns c = T.flag_off _ _ _ c.if-flag-eq2.false
