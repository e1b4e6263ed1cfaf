-- `gandeuch::gandeuch_merge_queries` meets its contract. Assumes nothing.
use Rattle.answers.proofs.Answers as A
use Rattle.gandeuch.proofs.gandeuch_merge_queries.Goals as goal

pub returns : goal.returns
returns c =
    A.reported _ _ _ c.merge_queries-a.result _ _ c.merge_queries-a.ensures c.number.ensures c.size_of.ensures
