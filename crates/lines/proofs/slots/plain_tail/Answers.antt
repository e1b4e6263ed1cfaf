-- `lines::slots/plain_tail` meets its contract. Assumes nothing.
use Rattle.lines.proofs.TailLaw as T
use Rattle.lines.proofs.slots.plain_tail.Goals as goal

pub text_fields-requires : goal.text_fields-requires
text_fields-requires c = (c.requires.0, c.requires.1)

pub returns-then-kind-eq3 : goal.returns-then-kind-eq3
returns-then-kind-eq3 c = T.cells-follow _ _ _ _ _ (T.tail_at c.args.kind 3 c.if-kind-eq3.true) c.text_fields.ensures

pub text_fields-requires-then-kind-eq4 : goal.text_fields-requires-then-kind-eq4
text_fields-requires-then-kind-eq4 c = (c.requires.0, c.requires.1)

pub returns-then-kind-eq4 : goal.returns-then-kind-eq4
returns-then-kind-eq4 c =
    T.integers-follow _ _ _ _ _ (T.tail_at c.args.kind 4 c.if-kind-eq4.true) c.text_fields-then-kind-eq4.ensures

pub value_fields-requires : goal.value_fields-requires
value_fields-requires c = (c.requires.0, c.requires.1)

pub returns-then-kind-eq5 : goal.returns-then-kind-eq5
returns-then-kind-eq5 c = T.values-follow _ _ _ _ _ (T.tail_at c.args.kind 5 c.if-kind-eq5.true) c.value_fields.ensures

pub value_fields-requires-then-kind-eq6 : goal.value_fields-requires-then-kind-eq6
value_fields-requires-then-kind-eq6 c = (c.requires.0, c.requires.1)

pub returns-then-kind-eq6 : goal.returns-then-kind-eq6
returns-then-kind-eq6 c =
    T.value-follows _ _ _ _ _ (T.tail_at c.args.kind 6 c.if-kind-eq6.true) c.value_fields-then-kind-eq6.ensures

pub returns : goal.returns
returns c =
    T.nothing-follows _ _ _ _ (T.tail-nothing c.args.kind c.requires.2 c.requires.3 c.if-kind-eq3.false c.if-kind-eq4.false c.if-kind-eq5.false c.if-kind-eq6.false) c.requires.1
