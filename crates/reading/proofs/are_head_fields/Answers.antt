-- `reading::are_head_fields` meets its contract. Assumes nothing.
use native.Mathlib.Omega.{arith}
use Rattle.lines.proofs.RepeatLaw as R
use Rattle.reading.proofs.HeadLaw as H
use Rattle.reading.proofs.are_head_fields.Goals as goal

pub text_field-dataset-requires : goal.text_field-dataset-requires
text_field-dataset-requires c = R.follows-line _ _ _ _ c.requires c.text_field-kind.ensures

pub text_field-base-requires : goal.text_field-base-requires
text_field-base-requires c =
    R.follows-line _ _ _ _ (R.follows-line _ _ _ _ c.requires c.text_field-kind.ensures) c.text_field-dataset.ensures

pub overflow_add-result : goal.overflow_add-result
overflow_add-result c =
    let i = R.follows-line _ _ _ _ (R.follows-line _ _ _ _ (R.follows-line _ _ _ _ c.requires c.text_field-kind.ensures) c.text_field-dataset.ensures) c.text_field-base.ensures in let a = i.ends in let b = i.short in omega (arith, a, b)

pub returns : goal.returns
returns c =
    H.head-fields _ _ _ _ _ c.text_field-kind.ensures c.text_field-dataset.ensures c.text_field-base.ensures
