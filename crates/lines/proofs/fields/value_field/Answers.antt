-- `lines::fields/value_field` meets its contract. Assumes nothing.
use native.Mathlib.Omega.{arith}
use Rattle.lines.proofs.StepLaw as S
use Rattle.lines.proofs.RepeatLaw as R
use Rattle.cursor.proofs.Laws as C
use Rattle.lines.proofs.fields.value_field.Goals as goal

pub slice_bounds-extra_kind-count : goal.slice_bounds-extra_kind-count
slice_bounds-extra_kind-count c =
    let x = C.reads_at _ _ _ _ _ c.next_field.ensures c.in-Some.is in let y = x.first.low in omega arith

pub slice_bounds-extra_kind-start : goal.slice_bounds-extra_kind-start
slice_bounds-extra_kind-start c =
    let x = C.reads_at _ _ _ _ _ c.next_field.ensures c.in-Some.is in let y = x.first.low in omega arith

pub slice_bounds-extra_kind-end : goal.slice_bounds-extra_kind-end
slice_bounds-extra_kind-end c =
    let x = C.reads_at _ _ _ _ _ c.next_field.ensures c.in-Some.is in let y = x.first.high in let z = c.requires.ends in omega arith

pub returns-then-kind-eq0 : goal.returns-then-kind-eq0
returns-then-kind-eq0 c =
    let x = C.reads_at _ _ _ _ _ c.next_field.ensures c.in-Some.is in S.failed-follows _ _ _ _ (R.value-refused _ _ _ _ c.requires x _ c.extra_kind-kind.ensures c.if-kind-eq0.true) c.failed-then-kind-eq0.ensures

pub text_field-behind-requires : goal.text_field-behind-requires
text_field-behind-requires c = S.in-line _ _ _ _ c.requires (C.reads_at _ _ _ _ _ c.next_field.ensures c.in-Some.is)

pub text_field-requires : goal.text_field-requires
text_field-requires c =
    R.follows-line _ _ _ _ (S.in-line _ _ _ _ c.requires (C.reads_at _ _ _ _ _ c.next_field.ensures c.in-Some.is)) c.text_field-behind.ensures

pub returns : goal.returns
returns c =
    R.value_taken _ _ _ _ c.requires (C.reads_at _ _ _ _ _ c.next_field.ensures c.in-Some.is) _ c.extra_kind-kind.ensures _ _ c.if-kind-eq0.false c.text_field-behind.ensures c.text_field.ensures

pub returns-in_default : goal.returns-in_default
returns-in_default c =
    S.failed-follows _ _ _ _ (R.value-missing c.args.s.now c.args.c (C.reads_none _ _ _ c.next_field.ensures c.in_default.is)) c.failed.ensures
