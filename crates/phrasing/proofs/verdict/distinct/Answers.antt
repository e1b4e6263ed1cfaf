-- `phrasing::verdict/distinct` meets its contract. Assumes nothing.
use Rattle.phrasing.proofs.verdict.distinct.Goals as goal

pub returns : goal.returns
returns c = cc
