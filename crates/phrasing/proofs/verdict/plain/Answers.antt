-- `phrasing::verdict/plain` meets its contract. Assumes nothing.
use Rattle.phrasing.proofs.verdict.plain.Goals as goal

pub returns : goal.returns
returns c = cc
