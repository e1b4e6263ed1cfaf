-- `phrasing::verdict/term` meets its contract. Assumes nothing.
use Rattle.phrasing.proofs.verdict.term.Goals as goal

pub allowed_at-requires : goal.allowed_at-requires
allowed_at-requires c = c.requires

pub returns : goal.returns
returns c = cc
