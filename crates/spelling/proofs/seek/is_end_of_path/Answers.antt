-- `spelling::seek/is_end_of_path` meets its contract. Assumes nothing.
use Rattle.spelling.proofs.Fielded as F
use mathlib.Core.Path.{ap, ap₂, ◌∙◌}
use mathlib.Core.Bool.{◌||◌}
use Rattle.text.specs.Text.{same}
use Rattle.spelling.proofs.seek.is_end_of_path.Goals as goal

pub field_at-subject-requires : goal.field_at-subject-requires
field_at-subject-requires c = c.requires

pub field_at-path-requires : goal.field_at-path-requires
field_at-path-requires c = (c.requires.0, c.field_at-subject.ensures.last)

pub is_field-requires : goal.is_field-requires
is_field-requires c = c.requires

pub is_field-requires-2 : goal.is_field-requires-2
is_field-requires-2 c = (c.requires.0, c.field_at-path.ensures.last)

pub returns : goal.returns
returns c =
    ap₂ ◌||◌ c.is_field.ensures (c.is_field-2.ensures ∙ ap (same _) (F.third _ _ _ _ c.field_at-subject.ensures _ c.field_at-path.ensures))
