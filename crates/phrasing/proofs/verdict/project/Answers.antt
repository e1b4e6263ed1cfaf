-- `phrasing::verdict/project` meets its contract. Assumes nothing.
use Rattle.phrasing.proofs.Fielded as F
use Rattle.phrasing.proofs.verdict.project.Goals as goal

pub all_named-requires : goal.all_named-requires
all_named-requires c = c.requires

pub returns : goal.returns
returns c = let a = c.args in let e = F.some-fields a.query.now a.from a.end in cc
