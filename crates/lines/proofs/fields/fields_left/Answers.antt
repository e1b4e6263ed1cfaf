-- `lines::fields/fields_left` meets its contract. Assumes nothing.
use mathlib.Core.Path.{ap}
use native.Mathlib.Omega.{arith}
use lib.ListN.{length}
use Rattle.lines.proofs.StepLaw as S
use Rattle.lines.proofs.FieldsLaw as F
use Rattle.cursor.proofs.Laws as C
use Rattle.lines.proofs.fields.fields_left.Goals as goal

pub loop-field-init : goal.loop-field-init
loop-field-init c = (c.requires, omega arith, F.left-long _ _ c.requires)

pub next_field-requires : goal.next_field-requires
next_field-requires c = c.loop-field.invariant.0.ends

pub overflow_add-k : goal.overflow_add-k
overflow_add-k c = let x = c.loop-field.invariant.1 in let y = c.loop-field.invariant.2 in omega arith

pub loop-field-smaller : goal.loop-field-smaller
loop-field-smaller c =
    let x = ap length (S.left_is _ _ _ _ c.loop-field.invariant.0 (C.reads_at _ _ _ _ _ c.next_field.ensures c.in-Some.is)) in omega arith

pub loop-field-preserved : goal.loop-field-preserved
loop-field-preserved c =
    let x = ap length (S.left_is _ _ _ _ c.loop-field.invariant.0 (C.reads_at _ _ _ _ _ c.next_field.ensures c.in-Some.is)) in let y = c.loop-field.invariant.1 in (S.in-line _ _ _ _ c.loop-field.invariant.0 (C.reads_at _ _ _ _ _ c.next_field.ensures c.in-Some.is), omega arith, c.loop-field.invariant.2)

pub returns : goal.returns
returns c =
    let x = ap length (C.left-none c.args.s.now c.loop-field.d.at c.loop-field.d.end (C.reads_none _ _ _ c.next_field.ensures c.in_default.is)) in let y = c.loop-field.invariant.1 in let z = c.loop-field.invariant.2 in (omega arith, omega arith)
