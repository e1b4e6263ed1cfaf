-- `parted::text_start` meets its contract. Assumes nothing.
use native.Mathlib.Omega.{arith}
use Rattle.parted.proofs.Parts.{start-next}
use Rattle.parted.proofs.text_start.Goals as goal

pub overflow_add-result : goal.overflow_add-result
overflow_add-result c = let h = c.requires.1 c.if-k-eq0.false in omega (arith, h)

pub returns : goal.returns
returns c = start-next _ _ c.if-k-eq0.false
