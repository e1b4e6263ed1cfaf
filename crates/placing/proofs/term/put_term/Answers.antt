-- `placing::term/put_term` meets its contract. Assumes nothing.
use Rattle.emit.proofs.Writing.{wrote-then, wrote-as, wrote-none}
use Rattle.placing.proofs.Written as W
use Rattle.placing.proofs.term.put_term.Goals as goal

pub returns-then-form-eq2 : goal.returns-then-form-eq2
returns-then-form-eq2 c = wrote-as (W.named_put _ _ _ c.if-form-eq2.true) c.put_between.ensures

pub returns-then-form-eq3 : goal.returns-then-form-eq3
returns-then-form-eq3 c = wrote-as (W.unbound-put _ _ _ c.if-form-eq2.false c.if-form-eq3.true) c.put.ensures

pub returns-then-form-eq4 : goal.returns-then-form-eq4
returns-then-form-eq4 c = wrote-as (W.none-put _ _ _ c.if-form-eq2.false c.if-form-eq3.false c.if-form-eq4.true) wrote-none

pub returns-then-form-eq0 : goal.returns-then-form-eq0
returns-then-form-eq0 c =
    wrote-as (W.simple-put _ _ _ c.if-form-eq2.false c.if-form-eq3.false c.if-form-eq4.false c.if-form-eq0.true) c.put_between-2.ensures

pub returns-then-form-eq1 : goal.returns-then-form-eq1
returns-then-form-eq1 c =
    wrote-as
    (W.tagged-put _ _ _ c.if-form-eq2.false c.if-form-eq3.false c.if-form-eq4.false c.if-form-eq0.false c.if-form-eq1.true)
    (wrote-then (wrote-then c.put_between-2.ensures c.put-then-form-eq1.ensures) c.put_all.ensures)

pub returns : goal.returns
returns c =
    wrote-as
    (W.typed-put _ _ _ c.if-form-eq2.false c.if-form-eq3.false c.if-form-eq4.false c.if-form-eq0.false c.if-form-eq1.false)
    (wrote-then (wrote-then c.put_between-2.ensures c.put_all-2.ensures) c.put_all-3.ensures)
