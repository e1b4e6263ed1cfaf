-- `phrasing::verdict/newer` meets its contract. Assumes nothing.
use Rattle.phrasing.proofs.verdict.newer.Goals as goal

pub returns : goal.returns
returns c = cc
