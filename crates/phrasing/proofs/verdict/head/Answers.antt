-- `phrasing::verdict/head` meets its contract. Assumes nothing.
use Rattle.spelling.proofs.Fielded as S
use Rattle.phrasing.proofs.Judged as J
use mathlib.Core.Path.{ap, ◌∙◌}
use Rattle.text.specs.Text.{same}
use Rattle.text.specs.Word.{bytes}
use Rattle.phrasing.proofs.verdict.head.Goals as goal

pub field_at-kind-requires : goal.field_at-kind-requires
field_at-kind-requires c = c.requires

pub field_at-dataset-requires : goal.field_at-dataset-requires
field_at-dataset-requires c = (c.requires.0, c.field_at-kind.ensures.last)

pub is_field-requires : goal.is_field-requires
is_field-requires c = (c.requires.0, c.field_at-kind.ensures.last)

pub is_field-requires-2 : goal.is_field-requires-2
is_field-requires-2 c = (c.requires.0, c.field_at-dataset.ensures.last)

pub is_field-requires-3 : goal.is_field-requires-3
is_field-requires-3 c = c.requires

pub returns : goal.returns
returns c =
    J.head-told _ c.is_field-3.result c.is_field.result c.is_field-2.result _ _ _ c.told.ensures c.is_field-3.ensures (c.is_field.ensures ∙ ap (same (bytes "-")) (S.second _ _ _ _ c.field_at-kind.ensures)) (c.is_field-2.ensures ∙ ap (same (bytes "-")) (S.third _ _ _ _ c.field_at-kind.ensures _ c.field_at-dataset.ensures))
