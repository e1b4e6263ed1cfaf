-- `descending::tree/first_spot` meets its contract. Assumes nothing.
use Rattle.descending.proofs.Descent as L
use Rattle.descending.proofs.tree.first_spot.Goals as goal

pub returns-then-nodes-i : goal.returns-then-nodes-i
returns-then-nodes-i c = L.first-none _ _ _ c.if-nodes-i.true

pub returns-then-k-first : goal.returns-then-k-first
returns-then-k-first c = L.first-over _ _ _ _ c.if-nodes-i.false c.place-first.ensures.0 c.if-k-first.true

pub returns : goal.returns
returns c = L.first-is _ _ _ _ c.if-nodes-i.false c.place-first.ensures.0 c.if-k-first.false
