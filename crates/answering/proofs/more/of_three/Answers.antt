-- `answering::more/of_three` meets its contract. Assumes nothing.
use Rattle.answering.proofs.Laws.{row-without, answer-row, none-of-three}
use Rattle.answering.proofs.more.of_three.Goals as goal

pub returns-then-call-eq8 : goal.returns-then-call-eq8
returns-then-call-eq8 c = answer-row _ _ _ _ _ _ c.without.result (row-without _ _ _) c.if-call-eq8.true c.without.ensures

pub returns : goal.returns
returns c = none-of-three _ _ _ _ _ c.if-call-eq8.false
