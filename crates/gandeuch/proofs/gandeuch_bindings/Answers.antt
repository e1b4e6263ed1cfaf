-- `gandeuch::gandeuch_bindings` meets its contract. Assumes nothing.
use Rattle.answers.proofs.Answers as A
use Rattle.gandeuch.proofs.gandeuch_bindings.Goals as goal

pub returns : goal.returns
returns c = A.reported _ _ _ c.bindings-a.result _ _ c.bindings-a.ensures c.number.ensures c.size_of.ensures
