-- `lines::slots/slots_of` meets its contract. Assumes nothing.
use mathlib.Core.Path.{sym, ◌∙◌, refl}
use Rattle.words.specs.bridge.Code.{fits_in}
use Rattle.lines.proofs.SlotLaw.{slots-none, under-columns, under-others}
use Rattle.lines.proofs.slots.slots_of.Goals as goal

pub returns-then-row-eq1 : goal.returns-then-row-eq1
unfolding fits_in
returns-then-row-eq1 c = (slots-none 3 ∙ sym (under-columns c.args.row.behind _ c.if-row-eq1.true), refl)

pub returns : goal.returns
unfolding fits_in
returns c = (sym (under-others c.args.row.behind _ c.if-row-eq1.false), c.requires)
