-- `expressing::filters/put_filtered` meets its contract. Assumes nothing.
use mathlib.Core.Path.{sym}
use native.Mathlib.Omega.{arith}
use lib.Seq.{length-take-le}
use Rattle.emit.proofs.Writing.{wrote-then, wrote-as}
use Rattle.expressing.proofs.Whole as Wh
use Rattle.expressing.proofs.filters.put_filtered.Goals as goal

pub slice_bounds-put_all-end : goal.slice_bounds-put_all-end
slice_bounds-put_all-end c = let p = c.requires in let a = p.0 in let b = p.1 in sym (length-take-le _ _ (omega arith))

pub returns : goal.returns
returns c =
    wrote-as
    (Wh.filtered-put _ _ _ _ _)
    (wrote-then (wrote-then (wrote-then (wrote-then (wrote-then c.put_all.ensures c.put_all-2.ensures) c.put_all-3.ensures) c.put_repeated.ensures) c.put_expressions.ensures) c.put_all-4.ensures)
