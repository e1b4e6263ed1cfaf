-- `negating::put_negated` meets its contract. Assumes nothing.
use mathlib.Core.Path.{sym}
use lib.Seq.{length-take-le}
use Rattle.emit.proofs.Writing.{wrote-then, wrote-as}
use Rattle.negating.proofs.Negated as Neg
use Rattle.negating.proofs.put_negated.Goals as goal

pub slice_bounds-put_all-end : goal.slice_bounds-put_all-end
slice_bounds-put_all-end c = sym (length-take-le _ _ c.requires)

pub returns : goal.returns
returns c =
    wrote-as (Neg.negated-put _ _ _) (wrote-then (wrote-then (wrote-then c.put_all.ensures c.put_all-2.ensures) c.put_all-3.ensures) c.put_all-4.ensures)
