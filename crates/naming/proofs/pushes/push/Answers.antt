-- `naming::pushes/push` meets its contract. Assumes nothing.
use Rattle.names.specs.bridge.Names.{starts_of, sizes_of}
use Rattle.names.proofs.Columns as R
use native.Mathlib.Omega.{arith}
use Rattle.naming.proofs.Book as L
use Rattle.naming.proofs.pushes.push.Goals as goal

pub find_label-requires : goal.find_label-requires
find_label-requires c = (c.requires.2.few, c.requires.2.bases.hinted c.requires.2.few)

pub returns-then-find_label-m : goal.returns-then-find_label-m
returns-then-find_label-m c =
    L.push-labelled _ _ _ _ _ _ _ c.requires.2 (starts_of c.args.table.now) (sizes_of c.args.table.now) c.args.k _ _ (R.column-is 0 c.args.table.now c.args.k _ c.wide-from.ensures.0, c.wide-from.ensures.1) c.base_at-size.ensures _ c.piece.ensures _ c.find_label.ensures c.args.next.prefix c.args.next.count c.if-find_label-m.true

pub returns-then-r-m : goal.returns-then-r-m
returns-then-r-m c =
    L.push-known _ _ _ _ _ _ _ c.requires.2 (starts_of c.args.table.now) (sizes_of c.args.table.now) c.args.k _ _ (R.column-is 0 c.args.table.now c.args.k _ c.wide-from.ensures.0, c.wide-from.ensures.1) c.base_at-size.ensures _ c.piece.ensures _ c.find_label.ensures c.args.next.prefix c.args.next.count _ _ _ _ (c.add_name-r.ensures _ c.requires.2.bases) c.if-r-m.true

pub bounds-marks-m : goal.bounds-marks-m
bounds-marks-m c =
    L.push-room _ _ _ _ _ _ _ c.requires.2 (starts_of c.args.table.now) (sizes_of c.args.table.now) c.args.k _ _ (R.column-is 0 c.args.table.now c.args.k _ c.wide-from.ensures.0, c.wide-from.ensures.1) c.base_at-size.ensures _ c.piece.ensures _ c.find_label.ensures c.args.next.prefix c.args.next.count _ _ _ _ (c.add_name-r.ensures _ c.requires.2.bases) c.if-r-m.false c.if-find_label-m.false c.requires.3

pub returns : goal.returns
returns c =
    L.push-new _ _ _ _ _ _ _ c.requires.2 (starts_of c.args.table.now) (sizes_of c.args.table.now) c.args.k _ _ (R.column-is 0 c.args.table.now c.args.k _ c.wide-from.ensures.0, c.wide-from.ensures.1) c.base_at-size.ensures _ c.piece.ensures _ c.find_label.ensures c.args.next.prefix c.args.next.count _ _ _ _ (c.add_name-r.ensures _ c.requires.2.bases) c.if-r-m.false c.if-find_label-m.false c.requires.3 (let small = c.struct_known-2-1.given in omega arith) _ _ (R.column-set 0 _ _ _, R.column-set 1 _ _ _)
