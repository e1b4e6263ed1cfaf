-- `words::spelled_at` meets its contract. Assumes nothing.
use borrow.Author.Rules.{rules}
use native.Mathlib.Omega.{arith}
use borrow.Author.Count.{below_more}
use Rattle.words.proofs.KeyLaws.{spells-none, spells-more}
use Rattle.words.proofs.spelled_at.Goals as goal

pub loop-i-init : goal.loop-i-init
loop-i-init c = (omega arith, omega arith, (λ j h l e. omega arith), spells-none _ _)

pub returns-then-s-i-eq9 : goal.returns-then-s-i-eq9
returns-then-s-i-eq9 c =
    let v = c.loop-i.invariant in (record { low = v.0; high = v.1; before = v.2; here = λ _. c.if-s-i-eq9.true }, v.3)

pub loop-i-preserved : goal.loop-i-preserved
loop-i-preserved c = let v = c.loop-i.invariant in let w = c.wide.ensures in (
  search rules,
  search rules,
  below_more _ _ v.2 (λ _. c.if-s-i-eq9.false),
  spells-more c.args.s.now _ _ _ _ v.0 (search rules) w.0 w.1 v.3,
)

pub returns : goal.returns
returns c =
    let v = c.loop-i.invariant in (record { low = v.0; high = v.1; before = v.2; here = λ h. absurd (omega arith) }, v.3)
