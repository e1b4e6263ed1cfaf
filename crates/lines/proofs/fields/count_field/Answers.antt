-- `lines::fields/count_field` meets its contract. Assumes nothing.
use borrow.Author.Rules.{rules}
use mathlib.Core.Path.{ap}
use native.Mathlib.Omega.{arith}
use Rattle.lines.proofs.StepLaw as S
use Rattle.lines.proofs.RepeatLaw as R
use Rattle.cursor.proofs.Laws as C
use Rattle.algebra.specs.bridge.Table.{count}
use Rattle.lines.specs.bridge.Steps.{rest_of, number_taken}
use Rattle.lines.proofs.fields.count_field.Goals as goal

pub slice_bounds-number_of-count : goal.slice_bounds-number_of-count
slice_bounds-number_of-count c =
    let x = C.reads_at _ _ _ _ _ c.next_field.ensures c.in-Some.is in let y = x.first.low in omega arith

pub slice_bounds-number_of-start : goal.slice_bounds-number_of-start
slice_bounds-number_of-start c =
    let x = C.reads_at _ _ _ _ _ c.next_field.ensures c.in-Some.is in let y = x.first.low in omega arith

pub slice_bounds-number_of-end : goal.slice_bounds-number_of-end
slice_bounds-number_of-end c =
    let x = C.reads_at _ _ _ _ _ c.next_field.ensures c.in-Some.is in let y = x.first.high in let z = c.requires.ends in omega arith

pub returns-in-Some-number_of : goal.returns-in-Some-number_of
returns-in-Some-number_of c =
    let x = C.reads_at _ _ _ _ _ c.next_field.ensures c.in-Some.is in let z = R.count-taken _ _ _ _ c.requires x _ c.number_of.ensures _ c.in-Some-number_of.is in (S.step_follows _ _ _ _ c.requires x _ (ap rest_of z), ap number_taken z, search rules)

pub returns-in-None : goal.returns-in-None
returns-in-None c =
    let x = C.reads_at _ _ _ _ _ c.next_field.ensures c.in-Some.is in let z = R.count-refused _ _ _ _ c.requires x _ c.number_of.ensures c.in-None.is in (S.failed-follows _ _ _ _ (ap rest_of z) c.failed-in-None.ensures, ap number_taken z, search rules)

pub returns-in_default : goal.returns-in_default
returns-in_default c =
    let z = S.nothing_left count c.args.s.now c.args.c (C.reads_none _ _ _ c.next_field.ensures c.in_default.is) in (S.failed-follows _ _ _ _ (ap rest_of z) c.failed.ensures, ap number_taken z, search rules)
