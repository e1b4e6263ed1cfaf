-- `heads::tree_start` meets its contract. Assumes nothing.
use Rattle.heads.proofs.Heads as H
use Rattle.heads.proofs.tree_start.Goals as goal

pub returns-then-end-query : goal.returns-then-end-query
returns-then-end-query c = H.starts-never _ _ c.line_end-end.ensures c.if-end-query.true

pub returns : goal.returns
returns c = H.starts-behind _ _ c.line_end-end.ensures c.if-end-query.false
