-- `phrasing::verdict/exists` meets its contract. Assumes nothing.
use Rattle.phrasing.proofs.verdict.exists.Goals as goal

pub returns : goal.returns
returns c = cc
