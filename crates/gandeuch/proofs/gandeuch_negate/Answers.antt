-- `gandeuch::gandeuch_negate` meets its contract. Assumes nothing.
use Rattle.answers.proofs.Answers as A
use Rattle.gandeuch.proofs.gandeuch_negate.Goals as goal

pub returns : goal.returns
returns c = A.reported _ _ _ c.negate-a.result _ _ c.negate-a.ensures c.number.ensures c.size_of.ensures
