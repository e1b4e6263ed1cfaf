-- `expressing::place/put_numbers` meets its contract. Assumes nothing.
use mathlib.Core.Path.{refl, sym, ◌∙◌}
use lib.ListN.{length-set}
use Rattle.expressing.proofs.Counted as C
use Rattle.expressing.proofs.place.put_numbers.Goals as goal

pub loop-j-init : goal.loop-j-init
loop-j-init c = (refl, refl)

pub loop-j-preserved : goal.loop-j-preserved
loop-j-preserved c = let i = c.loop-j.invariant in (simp length-set i.0, C.numbers-next _ _ _ c.loop-j-test.true ∙ i.1)

pub returns : goal.returns
returns c =
    let i = c.loop-j.invariant in sym (C.numbers-done _ _ _ c.loop-j-test.false) ∙ i.1 ∙ C.numbers-put c.args.numbers.now c.args.list.now c.requires
