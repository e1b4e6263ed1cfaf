-- `triples::triple_at` meets its contract. Assumes nothing.
use native.Mathlib.Omega.{arith}
use Rattle.triples.proofs.Fields as F
use Rattle.triples.proofs.triple_at.Goals as goal

pub returns-in_err-subject : goal.returns-in_err-subject
returns-in_err-subject c = rw c.from_residual.ensures (F.finds-none _ _ _ c.constant_at.ensures c.in_err-subject.was)

pub constant_at-requires-2 : goal.constant_at-requires-2
constant_at-requires-2 c =
    let e = F.first-end _ _ _ c.constant_at.ensures _ _ c.in_ok-subject.was in let p = c.requires.1 in omega arith

pub returns-in_err-predicate : goal.returns-in_err-predicate
returns-in_err-predicate c =
    rw c.from_residual-in_err-predicate.ensures (F.finds-one _ _ _ c.constant_at.ensures _ _ c.in_ok-subject.was _ c.constant_at-2.ensures c.in_err-predicate.was)

pub constant_at-requires-3 : goal.constant_at-requires-3
constant_at-requires-3 c =
    let e = F.second-end _ _ _ c.constant_at.ensures _ _ c.in_ok-subject.was _ c.constant_at-2.ensures _ _ c.in_ok-predicate.was in let p = c.requires.1 in omega arith

pub returns-in_err-object : goal.returns-in_err-object
returns-in_err-object c =
    rw c.from_residual-in_err-object.ensures (F.finds-two _ _ _ c.constant_at.ensures _ _ c.in_ok-subject.was _ c.constant_at-2.ensures _ _ c.in_ok-predicate.was _ c.constant_at-3.ensures c.in_err-object.was)

pub returns-then-object-c : goal.returns-then-object-c
returns-then-object-c c =
    F.finds-more _ _ _ c.constant_at.ensures _ _ c.in_ok-subject.was _ c.constant_at-2.ensures _ _ c.in_ok-predicate.was _ c.constant_at-3.ensures _ _ c.in_ok-object.was (omega (arith, c.if-object-c.true))

pub returns : goal.returns
returns c =
    F.finds-all _ _ _ c.constant_at.ensures _ _ c.in_ok-subject.was _ c.constant_at-2.ensures _ _ c.in_ok-predicate.was _ c.constant_at-3.ensures _ _ c.in_ok-object.was (omega (arith, c.if-object-c.false))
