-- `placing::term/form_of` meets its contract. Assumes nothing.
use Rattle.placing.proofs.Written as W
use Rattle.placing.proofs.term.form_of.Goals as goal

pub returns-then-equal : goal.returns-then-equal
returns-then-equal c = W.form-plain _ _ c.equal.ensures c.if-equal.true

pub returns-then-equal-2 : goal.returns-then-equal-2
returns-then-equal-2 c = W.form-tagged _ _ c.equal.ensures c.if-equal.false _ c.equal-2.ensures c.if-equal-2.true

pub returns-then-equal-3 : goal.returns-then-equal-3
returns-then-equal-3 c =
    W.form-iri _ _ c.equal.ensures c.if-equal.false _ c.equal-2.ensures c.if-equal-2.false _ c.equal-3.ensures c.if-equal-3.true

pub returns-then-equal-4 : goal.returns-then-equal-4
returns-then-equal-4 c =
    W.form-null _ _ c.equal.ensures c.if-equal.false _ c.equal-2.ensures c.if-equal-2.false _ c.equal-3.ensures c.if-equal-3.false _ c.equal-4.ensures c.if-equal-4.true

pub returns-then-equal-5 : goal.returns-then-equal-5
returns-then-equal-5 c =
    W.form-tuple _ _ c.equal.ensures c.if-equal.false _ c.equal-2.ensures c.if-equal-2.false _ c.equal-3.ensures c.if-equal-3.false _ c.equal-4.ensures c.if-equal-4.false _ c.equal-5.ensures c.if-equal-5.true

pub returns-then-equal-6 : goal.returns-then-equal-6
returns-then-equal-6 c =
    W.form-map _ _ c.equal.ensures c.if-equal.false _ c.equal-2.ensures c.if-equal-2.false _ c.equal-3.ensures c.if-equal-3.false _ c.equal-4.ensures c.if-equal-4.false _ c.equal-5.ensures c.if-equal-5.false _ c.equal-6.ensures c.if-equal-6.true

pub returns-then-equal-7 : goal.returns-then-equal-7
returns-then-equal-7 c =
    W.form-other _ _ c.equal.ensures c.if-equal.false _ c.equal-2.ensures c.if-equal-2.false _ c.equal-3.ensures c.if-equal-3.false _ c.equal-4.ensures c.if-equal-4.false _ c.equal-5.ensures c.if-equal-5.false _ c.equal-6.ensures c.if-equal-6.false _ c.equal-7.ensures c.if-equal-7.true

pub returns : goal.returns
returns c =
    W.form-typed _ _ c.equal.ensures c.if-equal.false _ c.equal-2.ensures c.if-equal-2.false _ c.equal-3.ensures c.if-equal-3.false _ c.equal-4.ensures c.if-equal-4.false _ c.equal-5.ensures c.if-equal-5.false _ c.equal-6.ensures c.if-equal-6.false _ c.equal-7.ensures c.if-equal-7.false
