-- `operators::line/put_unary` meets its contract. Assumes nothing.
use Rattle.operators.proofs.Headed as H
use Rattle.operators.proofs.line.put_unary.Goals as goal

pub returns-then-equal : goal.returns-then-equal
returns-then-equal c = H.unary-datatype _ _ _ c.equal.ensures c.if-equal.true _ c.put_all.ensures

pub returns-then-equal-2 : goal.returns-then-equal-2
returns-then-equal-2 c =
    H.unary-tag _ _ _ c.equal.ensures c.if-equal.false _ c.equal-2.ensures c.if-equal-2.true _ c.put_all-then-equal-2.ensures

pub returns : goal.returns
returns c = H.unary-none _ _ _ c.equal.ensures c.if-equal.false _ c.equal-2.ensures c.if-equal-2.false
