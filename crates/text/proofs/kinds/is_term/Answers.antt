-- `text::kinds/is_term` meets its contract. Assumes nothing.
use borrow.Author.Rules.{rules}
use Rattle.text.proofs.FieldLaws as F
use Rattle.text.specs.Field.{is_kind}
use native.Mathlib.Omega.{arith}
use Rattle.text.proofs.kinds.is_term.Goals as goal

pub is_var-requires : goal.is_var-requires
unfolding is_kind
is_var-requires c = search rules

pub is_node-requires : goal.is_node-requires
unfolding is_kind
is_node-requires c = search rules

pub is_plain-requires : goal.is_plain-requires
unfolding is_kind
is_plain-requires c = search rules

pub is_name-requires : goal.is_name-requires
unfolding is_kind
is_name-requires c = search rules

pub is_constant-requires : goal.is_constant-requires
unfolding is_kind
is_constant-requires c = search rules

pub is_cell-requires : goal.is_cell-requires
unfolding is_kind
is_cell-requires c = search rules

pub returns-in-0 : goal.returns-in-0
unfolding is_kind
returns-in-0 c = search F.kind-is

pub returns-in-1 : goal.returns-in-1
unfolding is_kind
returns-in-1 c = search F.kind-is

pub returns-in-2 : goal.returns-in-2
unfolding is_kind
returns-in-2 c = search F.kind-is

pub returns-in-3 : goal.returns-in-3
unfolding is_kind
returns-in-3 c = search F.kind-is

pub returns-in-4 : goal.returns-in-4
unfolding is_kind
returns-in-4 c = search F.kind-is

pub returns-in_default : goal.returns-in_default
unfolding is_kind
returns-in_default c = F.kind-is c.args.kind 5 _ _ (omega arith) c.is_cell.ensures
