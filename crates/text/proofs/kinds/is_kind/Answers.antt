-- `text::kinds/is_kind` meets its contract. Assumes nothing.
use borrow.Author.Rules.{rules}
use Rattle.text.proofs.FieldLaws as F
use Rattle.text.specs.Field.{is_kind}
use native.Mathlib.Omega.{arith}
use mathlib.Core.Path.{refl}
use Rattle.text.proofs.kinds.is_kind.Goals as goal

pub is_term-requires : goal.is_term-requires
unfolding is_kind
is_term-requires c = search rules

pub returns-then-kind-le5 : goal.returns-then-kind-le5
unfolding is_kind
returns-then-kind-le5 c = search rules

pub is_part-requires : goal.is_part-requires
unfolding is_kind
is_part-requires c = search rules

pub returns-then-kind-ge10 : goal.returns-then-kind-ge10
unfolding is_kind
returns-then-kind-ge10 c = search rules

pub is_integer-requires : goal.is_integer-requires
unfolding is_kind
is_integer-requires c = search rules

pub is_limit-requires : goal.is_limit-requires
unfolding is_kind
is_limit-requires c = search rules

pub is_flag-requires : goal.is_flag-requires
unfolding is_kind
is_flag-requires c = search rules

pub returns-in-6 : goal.returns-in-6
unfolding is_kind
returns-in-6 c = search F.kind-is

pub returns-in-7 : goal.returns-in-7
unfolding is_kind
returns-in-7 c = search F.kind-is

pub returns-in-8 : goal.returns-in-8
unfolding is_kind
returns-in-8 c = search F.kind-is

pub returns-in_default : goal.returns-in_default
unfolding is_kind
returns-in_default c = F.kind-is c.args.kind 9 _ _ (omega arith) refl
