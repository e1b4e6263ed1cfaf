-- `lines::slots/slot` meets its contract. Assumes nothing.
use borrow.Author.Rules.{rules}
use Prim.Native.Nat.{◌/◌, ◌%◌}
use mathlib.Core.Path.{ap}
use native.Mathlib.Omega.{arith}
use Rattle.algebra.specs.bridge.Table.{choice}
use Rattle.lines.proofs.StepLaw as S
use Rattle.lines.proofs.FieldsLaw as F
use Rattle.lines.proofs.SlotLaw as L
use Rattle.lines.proofs.AddLaw as D
use Rattle.lines.specs.bridge.Steps.{left_at, rest_of, number_taken, Follows}
use Rattle.text.specs.bridge.Code.{kind_at}
use Rattle.lines.specs.bridge.Line.{take_field}
use Rattle.lines.proofs.slots.slot.Goals as goal

pub overflow_cast-role : goal.overflow_cast-role
overflow_cast-role c = omega arith

pub overflow_cast-kind : goal.overflow_cast-kind
overflow_cast-kind c = omega arith

pub term_field-t-requires : goal.term_field-t-requires
term_field-t-requires c = c.requires

pub returns-then-role-eq1 : goal.returns-then-role-eq1
returns-then-role-eq1 c =
    rw (L.slot-term (c.args.code % 16) (kind_at (c.args.code / 16 % 16)) c.if-role-eq1.true) (record { follows = (c.term_field-t.ensures.follows, L.term-zero (kind_at (c.args.code / 16 % 16)) (left_at c.args.s.now c.args.c), search rules); keeps = c.term_field-t.ensures.keeps; adds = c.term_field-t.ensures.adds })

pub text_field-d-requires : goal.text_field-d-requires
text_field-d-requires c = c.requires

pub returns-then-role-eq2 : goal.returns-then-role-eq2
returns-then-role-eq2 c =
    rw (L.slot-text (c.args.code % 16) (kind_at (c.args.code / 16 % 16)) c.if-role-eq2.true) (record { follows = (c.text_field-d.ensures, L.text-zero (kind_at (c.args.code / 16 % 16)) (left_at c.args.s.now c.args.c), search rules); keeps = λ want h. L.keeps_same _ _ _ _ _ _ want (L.text-bare (kind_at (c.args.code / 16 % 16)) (left_at c.args.s.now c.args.c)) h; adds = λ h ss. D.text-adds _ _ _ _ _ ss c.requires _ c.text_field-d.ensures h })

pub count_field-t-requires : goal.count_field-t-requires
count_field-t-requires c = c.requires

pub returns-then-role-eq3 : goal.returns-then-role-eq3
returns-then-role-eq3 c =
    let e = c.count_field-t.ensures in rw (L.slot-count (c.args.code % 16) (kind_at (c.args.code / 16 % 16)) c.if-role-eq3.true) (record { follows = e; keeps = λ want h. L.keeps_same _ _ _ _ _ _ want (L.count-bare (left_at c.args.s.now c.args.c)) h; adds = λ h ss. D.count-adds _ _ _ _ _ ss c.requires e.0 h })

pub returns-then-t-gt1 : goal.returns-then-t-gt1
returns-then-t-gt1 c = let z = F.choice-large (left_at c.args.s.now c.args.c) (rw c.count_field-t.ensures.1 c.if-t-gt1.true) in
    let follows = S.failed-follows _ _ _ _ (ap rest_of z) c.failed.ensures in rw (L.slot-choice (c.args.code % 16) (kind_at (c.args.code / 16 % 16)) c.if-role-eq1.false c.if-role-eq2.false c.if-role-eq3.false) (record { follows = (follows, ap number_taken z, search rules); keeps = λ want h. L.keeps_same _ _ _ _ _ _ want (L.choice-bare (left_at c.args.s.now c.args.c)) h; adds = λ h ss. D.choice-adds _ _ _ _ _ ss c.requires follows h })

pub returns : goal.returns
returns c = let e = c.count_field-t.ensures in
    let z = F.choice-small (left_at c.args.s.now c.args.c) (rw e.1 c.if-t-gt1.false) in
    let follows : Follows c.args.s.now c.args.c (rest_of (take_field choice (left_at c.args.s.now c.args.c))) c.count_field-t.result.cursor = rw z e.0 in rw (L.slot-choice (c.args.code % 16) (kind_at (c.args.code / 16 % 16)) c.if-role-eq1.false c.if-role-eq2.false c.if-role-eq3.false) (record { follows = (follows, rw z e.1, e.2); keeps = λ want h. L.keeps_same _ _ _ _ _ _ want (L.choice-bare (left_at c.args.s.now c.args.c)) h; adds = λ h ss. D.choice-adds _ _ _ _ _ ss c.requires follows h })
