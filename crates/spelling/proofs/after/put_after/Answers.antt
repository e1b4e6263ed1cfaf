-- `spelling::after/put_after` meets its contract. Assumes nothing.
use borrow.Author.Rules.{rules}
use Rattle.spelling.proofs.Arms as A
use Rattle.words.specs.bridge.Key.{key_of}
use native.Mathlib.Omega.{arith}
use mathlib.Core.Path.{ap}
use Rattle.editions.specs.Token.{text}
use Rattle.spelling.proofs.after.put_after.Goals as goal

pub put_bind-requires : goal.put_bind-requires
unfolding key_of
put_bind-requires c = c.requires

pub overflow_add-end : goal.overflow_add-end
unfolding key_of
overflow_add-end c = let p = c.requires.0 in omega arith

pub put_project_end-requires : goal.put_project_end-requires
unfolding key_of
put_project_end-requires c = search rules

pub put_slice-requires : goal.put_slice-requires
unfolding key_of
put_slice-requires c = c.requires

pub put_closing-requires : goal.put_closing-requires
unfolding key_of
put_closing-requires c = search rules

pub shape_of-out-in-111568023285348 : goal.shape_of-out-in-111568023285348
unfolding key_of
shape_of-out-in-111568023285348 c = search rules

pub returns-in-111568023285348 : goal.returns-in-111568023285348
unfolding key_of
returns-in-111568023285348 c = λ f k. A.arm _ _ _ _ c.put_bind.ensures (A.after-extend f _ k _ _ _ _ c.in-111568023285348.is)

pub shape_of-out-in-31651020243559284 : goal.shape_of-out-in-31651020243559284
unfolding key_of
shape_of-out-in-31651020243559284 c = search rules

pub returns-in-31651020243559284 : goal.returns-in-31651020243559284
unfolding key_of
returns-in-31651020243559284 c =
    λ f k. A.arm _ _ _ _ c.put_project_end.ensures (A.after-project f _ k _ _ _ _ c.in-31651020243559284.is)

pub shape_of-out-in-495740085093 : goal.shape_of-out-in-495740085093
unfolding key_of
shape_of-out-in-495740085093 c = search rules

pub returns-in-495740085093 : goal.returns-in-495740085093
unfolding key_of
returns-in-495740085093 c = λ f k. A.arm _ _ _ _ c.put_slice.ensures (A.after-slice f _ k _ _ _ _ c.in-495740085093.is)

pub shape_of-out-in_default : goal.shape_of-out-in_default
unfolding key_of
shape_of-out-in_default c = search rules

pub returns-in_default : goal.returns-in_default
unfolding key_of
returns-in_default c =
    λ f k. let n = c.in_default.in_default-own.rest in A.arm _ _ _ _ (c.put_closing.ensures f k) (ap text (A.after-other f _ k _ _ _ _ n.0.0.1 n.0.1 n.1))
