-- `gandeuch::gandeuch_scope` meets its contract. Assumes nothing.
use Rattle.answers.proofs.Answers as A
use Rattle.gandeuch.proofs.gandeuch_scope.Goals as goal

pub returns : goal.returns
returns c = A.reported _ _ _ c.scope-a.result _ _ c.scope-a.ensures c.number.ensures c.size_of.ensures
