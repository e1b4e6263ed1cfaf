-- `gandeuch::gandeuch_namespaces` meets its contract. Assumes nothing.
use Rattle.answers.proofs.Answers as A
use Rattle.gandeuch.proofs.gandeuch_namespaces.Goals as goal

pub returns : goal.returns
returns c = A.reported _ _ _ c.namespaces-a.result _ _ c.namespaces-a.ensures c.number.ensures c.size_of.ensures
