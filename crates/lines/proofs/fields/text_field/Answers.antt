-- `lines::fields/text_field` meets its contract. Assumes nothing.
use mathlib.Core.Path.{ap}
use native.Mathlib.Omega.{arith}
use Rattle.lines.proofs.StepLaw as S
use Rattle.cursor.proofs.Laws as C
use Rattle.lines.specs.bridge.Steps.{rest_of}
use Rattle.algebra.specs.bridge.Table.{text}
use Rattle.text.specs.bridge.Code.{kind_at}
use Rattle.lines.proofs.fields.text_field.Goals as goal

pub slice_bounds-is_kind-count : goal.slice_bounds-is_kind-count
slice_bounds-is_kind-count c =
    let x = C.reads_at _ _ _ _ _ c.next_field.ensures c.in-Some.is in let y = x.first.low in omega arith

pub slice_bounds-is_kind-start : goal.slice_bounds-is_kind-start
slice_bounds-is_kind-start c =
    let x = C.reads_at _ _ _ _ _ c.next_field.ensures c.in-Some.is in let y = x.first.low in omega arith

pub slice_bounds-is_kind-end : goal.slice_bounds-is_kind-end
slice_bounds-is_kind-end c =
    let x = C.reads_at _ _ _ _ _ c.next_field.ensures c.in-Some.is in let y = x.first.high in let z = c.requires.ends in omega arith

pub returns-then-is_kind : goal.returns-then-is_kind
returns-then-is_kind c =
    let x = C.reads_at _ _ _ _ _ c.next_field.ensures c.in-Some.is in S.step_follows _ _ _ _ c.requires x _ (S.text-taken _ _ _ _ c.requires x _ _ c.is_kind.ensures c.if-is_kind.true)

pub returns : goal.returns
returns c =
    let x = C.reads_at _ _ _ _ _ c.next_field.ensures c.in-Some.is in S.failed-follows _ _ _ _ (S.text-refused _ _ _ _ c.requires x _ _ c.is_kind.ensures c.if-is_kind.false) c.failed-2.ensures

pub returns-in_default : goal.returns-in_default
returns-in_default c =
    S.failed-follows _ _ _ _ (ap rest_of (S.nothing_left (text (kind_at c.args.kind)) c.args.s.now c.args.c (C.reads_none _ _ _ c.next_field.ensures c.in_default.is))) c.failed.ensures
