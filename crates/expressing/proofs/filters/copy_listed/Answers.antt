-- `expressing::filters/copy_listed` meets its contract. Assumes nothing.
use mathlib.Core.Path.{refl, subst}
use native.Mathlib.Omega.{arith}
use Rattle.std.specs.Prelude.{Ok}
use Rattle.answers.specs.Outcome.{Answered}
use Rattle.answers.proofs.Both as Both
use Rattle.expressing.proofs.filters.copy_listed.Goals as goal

pub returns-then-out-tree : goal.returns-then-out-tree
returns-then-out-tree c = Both.both-short _ _ _ _ _ refl c.if-out-tree.true

pub returns-then-list-numbers : goal.returns-then-list-numbers
returns-then-list-numbers c =
    let n = c.if-out-tree.false in Both.both-list-short _ _ _ _ _ refl (omega (arith, n)) c.if-list-numbers.true

pub returns-in_err-size : goal.returns-in_err-size
returns-in_err-size c =
    let n = c.if-out-tree.false in absurd (Both.not-refused _ _ _ _ (subst (Answered _ _ _) c.in_err-size.was c.copy.ensures) (omega (arith, n)))

pub returns : goal.returns
returns c =
    let n = c.if-out-tree.false in let m = c.if-list-numbers.false in Both.both-written _ _ _ _ _ refl _ _ (Ok c.in_ok-size.size) (omega (arith, n)) (omega (arith, m)) (subst (Answered _ _ _) c.in_ok-size.was c.copy.ensures) c.put_numbers.ensures
