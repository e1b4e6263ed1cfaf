-- `operators::line/is_expressed` meets its contract. Assumes nothing.
use Rattle.operators.proofs.Headed as H
use Rattle.operators.proofs.line.is_expressed.Goals as goal

pub returns-then-form-eq3 : goal.returns-then-form-eq3
returns-then-form-eq3 c = H.form-null _ c.if-form-eq3.true

pub returns-then-form-eq4 : goal.returns-then-form-eq4
returns-then-form-eq4 c = H.form-none _ c.if-form-eq3.false c.if-form-eq4.true

pub returns : goal.returns
returns c = H.form-other _ c.if-form-eq3.false c.if-form-eq4.false
