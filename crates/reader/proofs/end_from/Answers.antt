-- `reader::end_from` meets its contract. Assumes nothing.
use borrow.Author.Rules.{rules}
use native.Mathlib.Omega.{arith}
use Rattle.reader.specs.bridge.Lines.{EndsAt}
use Rattle.reader.proofs.end_from.Goals as goal

pub returns-then-text-next : goal.returns-then-text-next
unfolding EndsAt
returns-then-text-next c = λ h. absurd (omega (arith, h))

pub find-requires : goal.find-requires
unfolding EndsAt
find-requires c = search rules

pub returns : goal.returns
unfolding EndsAt
returns c = λ h. c.find.ensures
