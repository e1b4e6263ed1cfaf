-- `gandeuch::gandeuch_without` meets its contract. Assumes nothing.
use Rattle.answers.proofs.Answers as A
use Rattle.gandeuch.proofs.gandeuch_without.Goals as goal

pub returns : goal.returns
returns c = A.reported _ _ _ c.without-a.result _ _ c.without-a.ensures c.number.ensures c.size_of.ensures
