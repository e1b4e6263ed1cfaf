-- `gandeuch::gandeuch_merge_patterns` meets its contract. Assumes nothing.
use Rattle.answers.proofs.Answers as A
use Rattle.gandeuch.proofs.gandeuch_merge_patterns.Goals as goal

pub returns : goal.returns
returns c =
    A.reported _ _ _ c.merge_patterns-a.result _ _ c.merge_patterns-a.ensures c.number.ensures c.size_of.ensures
