-- `lines::slots/tail` meets its contract. Assumes nothing.
use mathlib.Core.Path.{sym, ◌∙◌}
use Rattle.lines.proofs.TailLaw as T
use Rattle.lines.proofs.SlotLaw as L
use Rattle.lines.proofs.RepeatLaw as R
use Rattle.lines.proofs.AddLaw as D
use Rattle.lines.specs.bridge.Steps.{left_at}
use Rattle.words.specs.bridge.Code.{tail_of}
use Rattle.lines.proofs.slots.tail.Goals as goal

pub fields_left-columns-requires : goal.fields_left-columns-requires
fields_left-columns-requires c = c.requires.0

pub variable_fields-t-requires : goal.variable_fields-t-requires
variable_fields-t-requires c = c.requires

pub returns-then-kind-eq1 : goal.returns-then-kind-eq1
returns-then-kind-eq1 c =
    let e = T.columns-are c.args.w.width c.fields_left-columns.result (tail_of c.args.kind) (left_at c.args.s.now c.args.c) (T.tail_at c.args.kind 1 c.if-kind-eq1.true) c.fields_left-columns.ensures.0 in let f = T.follows_by _ _ _ _ _ e c.variable_fields-t.ensures.follows in record { follows = (f, λ h. T.columns-count c.args.w.width (tail_of c.args.kind) (left_at c.args.s.now c.args.c) _ (T.tail_at c.args.kind 1 c.if-kind-eq1.true) (R.follows-fine _ _ _ _ f h).0 ∙ sym c.fields_left-columns.ensures.0); keeps = λ h want q. rw e (c.variable_fields-t.ensures.keeps h want q); adds = λ h k. c.variable_fields-t.ensures.adds h }

pub variable_fields-t-requires-then-kind-eq2 : goal.variable_fields-t-requires-then-kind-eq2
variable_fields-t-requires-then-kind-eq2 c = c.requires

pub returns-then-kind-eq2 : goal.returns-then-kind-eq2
returns-then-kind-eq2 c =
    let e = T.variables-are c.args.w.width (tail_of c.args.kind) (left_at c.args.s.now c.args.c) (T.tail_at c.args.kind 2 c.if-kind-eq2.true) in record { follows = (rw e c.variable_fields-t-then-kind-eq2.ensures.follows, λ h. T.no-columns c.args.kind _ c.if-kind-eq1.false); keeps = λ h want q. rw e (c.variable_fields-t-then-kind-eq2.ensures.keeps h want q); adds = λ h k. c.variable_fields-t-then-kind-eq2.ensures.adds h }

pub plain_tail-d-requires : goal.plain_tail-d-requires
plain_tail-d-requires c = (c.requires.0, c.requires.1, c.if-kind-eq1.false, c.if-kind-eq2.false)

pub returns : goal.returns
returns c =
    record { follows = (c.plain_tail-d.ensures, λ h. T.no-columns c.args.kind _ c.if-kind-eq1.false); keeps = λ h want q. L.keeps_same _ _ _ _ _ _ want (T.plain-bare c.args.kind c.args.w.width (left_at c.args.s.now c.args.c) c.if-kind-eq1.false c.if-kind-eq2.false) q; adds = λ h k. D.plain-adds _ _ _ _ _ _ _ c.requires.0 c.requires.1 c.if-kind-eq1.false c.if-kind-eq2.false c.plain_tail-d.ensures h k }
