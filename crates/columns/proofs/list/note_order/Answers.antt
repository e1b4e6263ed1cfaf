-- `columns::list/note_order` meets its contract. Assumes nothing.
use Prim.Native.Nat.{◌-◌}
use mathlib.Core.Path.{◌≡◌}
use native.Mathlib.Omega.{arith}
use lib.ListN.{length-set}
use Rattle.columns.proofs.Places as P
use Rattle.columns.proofs.list.note_order.Goals as goal

pub loop-k-init : goal.loop-k-init
loop-k-init c = let p = c.requires in (omega arith, p.2, P.order-start _ _ _ p.4)

pub offset_bounds-order-wide : goal.offset_bounds-order-wide
offset_bounds-order-wide c =
    let b = P.place-below c.args.at.now c.args.m _ (c.loop-k.k - 1) (omega arith) (omega arith) c.requires.3 _ c.wide.ensures in omega arith

pub bounds-order-wide : goal.bounds-order-wide
bounds-order-wide c =
    let b = P.place-below c.args.at.now c.args.m _ (c.loop-k.k - 1) (omega arith) (omega arith) c.requires.3 _ c.wide.ensures in omega arith

pub loop-k-preserved : goal.loop-k-preserved
loop-k-preserved c =
    let b = P.place-below c.args.at.now c.args.m _ (c.loop-k.k - 1) (omega arith) (omega arith) c.requires.3 _ c.wide.ensures in (omega arith, simp length-set c.loop-k.invariant.1, P.order-next c.args.at.now c.args.m (c.loop-k.k - 1) c.loop-k.k _ _ (omega arith) (omega arith) (omega arith) c.wide.ensures (let l = c.loop-k.invariant.1 in omega arith) c.loop-k.invariant.1 c.loop-k.invariant.2)

pub returns : goal.returns
returns c =
    let z : c.loop-k.k ≡ 0 = omega arith in (c.loop-k.invariant.1, P.order-done _ _ _ (omega arith) (rw z at c.loop-k.invariant.2))
