-- `answering::first_of` meets its contract. Assumes nothing.
use mathlib.Core.Path.{sym}
use native.Mathlib.Omega.{arith}
use lib.Seq.{take_all, length-take-le}
use Rattle.answering.proofs.first_of.Goals as goal

pub returns-then-list-many : goal.returns-then-list-many
returns-then-list-many c = sym (take_all _ _ c.if-list-many.true)

pub slice_bounds-result-end : goal.slice_bounds-result-end
slice_bounds-result-end c = let n = c.if-list-many.false in sym (length-take-le _ _ (omega (arith, n)))
