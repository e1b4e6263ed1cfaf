-- `answering::of_one` meets its contract. Assumes nothing.
use Rattle.answering.proofs.Laws.{row-scope, row-negate, answer-row, none-of-one}
use Rattle.answering.proofs.of_one.Goals as goal

pub returns-then-call-eq0 : goal.returns-then-call-eq0
returns-then-call-eq0 c = answer-row _ _ _ _ _ _ c.scope.result (row-scope _) c.if-call-eq0.true c.scope.ensures

pub returns-then-call-eq5 : goal.returns-then-call-eq5
returns-then-call-eq5 c = answer-row _ _ _ _ _ _ c.negate.result (row-negate _) c.if-call-eq5.true c.negate.ensures

pub returns : goal.returns
returns c = none-of-one _ _ _ c.if-call-eq0.false c.if-call-eq5.false
