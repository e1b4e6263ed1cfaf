-- `phrasing::verdict/slice` meets its contract. Assumes nothing.
use Rattle.phrasing.proofs.verdict.slice.Goals as goal

pub returns : goal.returns
returns c = cc
