-- `phrasing::verdict/columns` meets its contract. Assumes nothing.
use Rattle.phrasing.proofs.verdict.columns.Goals as goal

pub are_different-requires : goal.are_different-requires
are_different-requires c = c.requires

pub all_named-requires : goal.all_named-requires
all_named-requires c = c.requires

pub returns : goal.returns
returns c = cc
