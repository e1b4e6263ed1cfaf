-- `binding::bindings/put_bindings` meets its contract. Assumes nothing.
use mathlib.Core.Path.{sym}
use native.Mathlib.Omega.{arith}
use lib.Seq.{length-take-le}
use Rattle.emit.proofs.Writing.{wrote-then, wrote-as}
use Rattle.binding.proofs.Whole as Wh
use Rattle.binding.proofs.bindings.put_bindings.Goals as goal

pub slice_bounds-put_all-end : goal.slice_bounds-put_all-end
slice_bounds-put_all-end c = let a = c.requires.0 in let b = c.requires.1 in sym (length-take-le _ _ (omega arith))

pub slice_bounds-put_all-count : goal.slice_bounds-put_all-count
slice_bounds-put_all-count c = let a = c.requires.0 in let b = c.requires.1 in omega arith

pub slice_bounds-put_all-start : goal.slice_bounds-put_all-start
slice_bounds-put_all-start c = let a = c.requires.0 in let b = c.requires.1 in omega arith

pub slice_bounds-put_all-end-2 : goal.slice_bounds-put_all-end-2
slice_bounds-put_all-end-2 c = let a = c.requires.0 in let b = c.requires.1 in omega arith

pub put_values-requires : goal.put_values-requires
put_values-requires c = (c.requires.2, c.requires.3)

pub slice_bounds-put_all-count-2 : goal.slice_bounds-put_all-count-2
slice_bounds-put_all-count-2 c = let a = c.requires.0 in let b = c.requires.1 in omega arith

pub slice_bounds-put_all-start-2 : goal.slice_bounds-put_all-start-2
slice_bounds-put_all-start-2 c = let a = c.requires.0 in let b = c.requires.1 in omega arith

pub slice_bounds-put_all-end-3 : goal.slice_bounds-put_all-end-3
slice_bounds-put_all-end-3 c = let a = c.requires.0 in let b = c.requires.1 in omega arith

pub returns : goal.returns
returns c =
    wrote-as
    (Wh.bound-put _ _ _ _ _ _)
    (wrote-then (wrote-then (wrote-then (wrote-then c.put_all.ensures c.put_repeated.ensures) c.put_all-2.ensures) c.put_values.ensures) c.put_all-3.ensures)
