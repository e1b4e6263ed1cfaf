-- `lines::variables/term_field` meets its contract. Assumes nothing.
use mathlib.Core.Path.{refl, sym, ap}
use native.Mathlib.Omega.{arith}
use Rattle.lines.proofs.StepLaw as S
use Rattle.lines.proofs.AddLaw as D
use Rattle.cursor.proofs.Laws as C
use Rattle.lines.specs.bridge.Steps.{rest_of}
use Rattle.algebra.specs.bridge.Table.{term}
use Rattle.text.specs.bridge.Code.{kind_at}
use Rattle.lines.proofs.variables.term_field.Goals as goal

pub slice_bounds-is_var_of-count : goal.slice_bounds-is_var_of-count
slice_bounds-is_var_of-count c =
    let x = C.reads_at _ _ _ _ _ c.next_field.ensures c.in-Some.is in let y = x.first.low in omega arith

pub slice_bounds-is_var_of-start : goal.slice_bounds-is_var_of-start
slice_bounds-is_var_of-start c =
    let x = C.reads_at _ _ _ _ _ c.next_field.ensures c.in-Some.is in let y = x.first.low in omega arith

pub slice_bounds-is_var_of-end : goal.slice_bounds-is_var_of-end
slice_bounds-is_var_of-end c =
    let x = C.reads_at _ _ _ _ _ c.next_field.ensures c.in-Some.is in let y = x.first.high in let z = c.requires.ends in omega arith

pub overflow_sub-to : goal.overflow_sub-to
overflow_sub-to c =
    let x = C.reads_at _ _ _ _ _ c.next_field.ensures c.in-Some.is in let y = x.first.low in omega arith

pub note_field-m-requires : goal.note_field-m-requires
note_field-m-requires c =
    let x = C.reads_at _ _ _ _ _ c.next_field.ensures c.in-Some.is in let y = x.first.high in let v = x.first.low in let z = c.requires.ends in let w = c.requires.short in (omega arith, omega arith, omega arith)

pub returns-then-is_var_of : goal.returns-then-is_var_of
returns-then-is_var_of c =
    let x = C.reads_at _ _ _ _ _ c.next_field.ensures c.in-Some.is in let n = c.note_field-m.ensures in record { follows = S.step_follows _ _ _ _ c.requires x _ (S.term-taken _ _ _ _ c.requires x _ _ (sym (c.is_var_of.ensures c.if-is_var_of.true)) refl); keeps = λ want h. rw (S.term-terms _ _ _ _ c.requires x _ _ (sym (c.is_var_of.ensures c.if-is_var_of.true)) refl) (n.keeps want h); adds = λ h ss. D.term-adds _ _ _ _ c.requires x _ _ _ _ ss n.adds }

pub slice_bounds-is_kind-count : goal.slice_bounds-is_kind-count
slice_bounds-is_kind-count c =
    let x = C.reads_at _ _ _ _ _ c.next_field.ensures c.in-Some.is in let y = x.first.low in omega arith

pub slice_bounds-is_kind-start : goal.slice_bounds-is_kind-start
slice_bounds-is_kind-start c =
    let x = C.reads_at _ _ _ _ _ c.next_field.ensures c.in-Some.is in let y = x.first.low in omega arith

pub slice_bounds-is_kind-end : goal.slice_bounds-is_kind-end
slice_bounds-is_kind-end c =
    let x = C.reads_at _ _ _ _ _ c.next_field.ensures c.in-Some.is in let y = x.first.high in let z = c.requires.ends in omega arith

pub overflow_sub-to-then-is_kind : goal.overflow_sub-to-then-is_kind
overflow_sub-to-then-is_kind c =
    let x = C.reads_at _ _ _ _ _ c.next_field.ensures c.in-Some.is in let y = x.first.low in omega arith

pub note_field-m-requires-then-is_kind : goal.note_field-m-requires-then-is_kind
note_field-m-requires-then-is_kind c =
    let x = C.reads_at _ _ _ _ _ c.next_field.ensures c.in-Some.is in let y = x.first.high in let v = x.first.low in let z = c.requires.ends in let w = c.requires.short in (omega arith, omega arith, omega arith)

pub returns-then-is_kind : goal.returns-then-is_kind
returns-then-is_kind c =
    let x = C.reads_at _ _ _ _ _ c.next_field.ensures c.in-Some.is in let n = c.note_field-m-then-is_kind.ensures in record { follows = S.step_follows _ _ _ _ c.requires x _ (S.term-taken _ _ _ _ c.requires x _ _ c.is_kind.ensures c.if-is_kind.true); keeps = λ want h. rw (S.term-terms _ _ _ _ c.requires x _ _ c.is_kind.ensures c.if-is_kind.true) (n.keeps want h); adds = λ h ss. D.term-adds _ _ _ _ c.requires x _ _ _ _ ss n.adds }

pub returns : goal.returns
returns c =
    let x = C.reads_at _ _ _ _ _ c.next_field.ensures c.in-Some.is in let z = S.term-refused _ _ _ _ c.requires x _ _ c.is_kind.ensures c.if-is_kind.false in record { follows = S.failed-follows _ _ _ _ (ap rest_of z) c.failed-2.ensures; keeps = λ want h. S.keeps-none _ _ _ _ _ _ want z h; adds = λ h ss. let q = c.failed-2.ensures.0 in absurd (omega arith) }

pub returns-in_default : goal.returns-in_default
returns-in_default c =
    let z = S.nothing_left (term (kind_at c.args.kind)) c.args.s.now c.args.c (C.reads_none _ _ _ c.next_field.ensures c.in_default.is) in record { follows = S.failed-follows _ _ _ _ (ap rest_of z) c.failed.ensures; keeps = λ want h. S.keeps-none _ _ _ _ _ _ want z h; adds = λ h ss. let q = c.failed.ensures.0 in absurd (omega arith) }
