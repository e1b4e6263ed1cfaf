-- `text::kinds/is_part` meets its contract. Assumes nothing.
use borrow.Author.Rules.{rules}
use Rattle.text.proofs.FieldLaws as F
use Rattle.text.specs.Field.{is_kind}
use native.Mathlib.Omega.{arith}
use Rattle.text.proofs.kinds.is_part.Goals as goal

pub is_dash-requires : goal.is_dash-requires
unfolding is_kind
is_dash-requires c = search rules

pub is_tag-requires : goal.is_tag-requires
unfolding is_kind
is_tag-requires c = search rules

pub is_datatype-requires : goal.is_datatype-requires
unfolding is_kind
is_datatype-requires c = search rules

pub is_form-requires : goal.is_form-requires
unfolding is_kind
is_form-requires c = search rules

pub returns-in-10 : goal.returns-in-10
unfolding is_kind
returns-in-10 c = search F.kind-is

pub returns-in-11 : goal.returns-in-11
unfolding is_kind
returns-in-11 c = search F.kind-is

pub returns-in-12 : goal.returns-in-12
unfolding is_kind
returns-in-12 c = search F.kind-is

pub returns-in-13 : goal.returns-in-13
unfolding is_kind
returns-in-13 c = search F.kind-is

pub returns-in_default : goal.returns-in_default
unfolding is_kind
returns-in_default c = F.kind-last c.args.kind _ _ (omega arith) c.is_form.ensures
