-- `gandeuch::gandeuch_push_constants` meets its contract. Assumes nothing.
use Rattle.answers.proofs.Answers as A
use Rattle.gandeuch.proofs.gandeuch_push_constants.Goals as goal

pub returns : goal.returns
returns c =
    A.reported _ _ _ c.push_constants-a.result _ _ c.push_constants-a.ensures c.number.ensures c.size_of.ensures
