-- `lines::slots/number_at` meets its contract. Assumes nothing.
use borrow.Author.Tests.{eq-eqb, ne_eqb}
use Rattle.lines.proofs.slots.number_at.Goals as goal

pub returns-then-i-place : goal.returns-then-i-place
returns-then-i-place c = rw (eq-eqb c.args.i c.args.place c.if-i-place.true)

pub returns : goal.returns
returns c = rw (ne_eqb c.args.i c.args.place c.if-i-place.false)
