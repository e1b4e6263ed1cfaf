-- `columns::columns/put_columns` meets its contract. Assumes nothing.
use mathlib.Core.Path.{refl}
use native.Mathlib.Omega.{arith}
use Rattle.emit.proofs.Writing.{left-all, left-as, left-next, left-none}
use Rattle.columns.proofs.New as N
use Rattle.columns.proofs.Picked as L
use Rattle.columns.proofs.columns.put_columns.Goals as goal

pub loop-left-init : goal.loop-left-init
loop-left-init c = (omega arith, L.all-counted _ _ _ _ c.requires.1, left-as (L.all-put _ _ _) (left-all _))

pub offset_bounds-spots-i : goal.offset_bounds-spots-i
offset_bounds-spots-i c =
    let t = L.columns-more _ _ _ _ c.loop-left.i c.args.columns (N.columns-over _ c.args.spots.now _ c.requires.0.many _) c.loop-left.invariant.1 c.loop-left-test.true in let m = c.requires.0.many in let g = c.well_formed in omega (arith, t, m, g)

pub bounds-spots-i : goal.bounds-spots-i
bounds-spots-i c =
    let t = L.columns-more _ _ _ _ c.loop-left.i c.args.columns (N.columns-over _ c.args.spots.now _ c.requires.0.many _) c.loop-left.invariant.1 c.loop-left-test.true in let m = c.requires.0.many in omega arith

pub put_column-requires : goal.put_column-requires
put_column-requires c =
    let e = c.requires.0.each _ (L.columns-more _ _ _ _ c.loop-left.i c.args.columns (N.columns-over _ c.args.spots.now _ c.requires.0.many _) c.loop-left.invariant.1 c.loop-left-test.true) in let w = c.wide.ensures in omega arith

pub overflow_add-i : goal.overflow_add-i
overflow_add-i c =
    let t = L.columns-more _ _ _ _ c.loop-left.i c.args.columns (N.columns-over _ c.args.spots.now _ c.requires.0.many _) c.loop-left.invariant.1 c.loop-left-test.true in let m = c.requires.0.many in let g = c.well_formed in omega (arith, t, m, g)

pub loop-left-smaller : goal.loop-left-smaller
loop-left-smaller c =
    let t = L.columns-more _ _ _ _ c.loop-left.i c.args.columns (N.columns-over _ c.args.spots.now _ c.requires.0.many _) c.loop-left.invariant.1 c.loop-left-test.true in omega arith

pub loop-left-preserved : goal.loop-left-preserved
loop-left-preserved c =
    let i = c.loop-left.invariant in let t = L.columns-more _ _ _ _ c.loop-left.i c.args.columns (N.columns-over _ c.args.spots.now _ c.requires.0.many _) c.loop-left.invariant.1 c.loop-left-test.true in let a = N.columns-left _ c.args.spots.now _ c.requires.0.many _ t in (omega arith, L.columns-less _ _ _ _ _ _ a _ _ _ _ c.bit_at.ensures refl i.1 c.less-left.ensures, left-next (left-as (L.columns-next _ _ _ _ _ _ a _ _ c.bit_at.ensures refl) i.2) (rw c.wide.ensures at c.put_column.ensures))

pub returns : goal.returns
returns c = left-none (left-as (L.nothing_left _ _ c.loop-left.invariant.1 c.loop-left-test.false) c.loop-left.invariant.2)
