-- `gandeuch::gandeuch_rename` meets its contract. Assumes nothing.
use Rattle.answers.proofs.Answers as A
use Rattle.gandeuch.proofs.gandeuch_rename.Goals as goal

pub returns : goal.returns
returns c = A.reported _ _ _ c.rename-a.result _ _ c.rename-a.ensures c.number.ensures c.size_of.ensures
