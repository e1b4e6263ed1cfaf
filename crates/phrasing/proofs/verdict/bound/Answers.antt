-- `phrasing::verdict/bound` meets its contract. Assumes nothing.
use Rattle.phrasing.proofs.verdict.bound.Goals as goal

pub named_at-requires : goal.named_at-requires
named_at-requires c = c.requires

pub returns : goal.returns
returns c = cc
