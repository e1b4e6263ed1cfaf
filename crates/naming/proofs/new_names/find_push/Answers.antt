-- `naming::new_names/find_push` meets its contract. Assumes nothing.
use Rattle.names.proofs.Columns as R
use native.Mathlib.Omega.{arith}
use Rattle.naming.proofs.Lookup as L
use Rattle.naming.proofs.Settled as W
use Rattle.naming.proofs.new_names.find_push.Goals as goal

pub find_label-i-requires : goal.find_label-i-requires
find_label-i-requires c = (c.requires.0.few, c.requires.0.bases.hinted c.requires.0.few)

pub overflow_add-result : goal.overflow_add-result
overflow_add-result c =
    let small = c.requires.0.small _ c.if-i-m.true in omega (arith, small, R.column-at 0 c.args.marks.now c.find_label-i.result)

pub returns-then-i-m : goal.returns-then-i-m
returns-then-i-m c =
    W.marked-labelled _ _ c.args.marks.now _ (c.requires.0.small _ c.if-i-m.true) (L.lookup-label _ _ _ _ _ _ _ _ c.if-i-m.true c.requires.1 (c.find_label-i.ensures.here c.if-i-m.true))

pub overflow_add-result-then-k-m : goal.overflow_add-result-then-k-m
overflow_add-result-then-k-m c =
    let small = c.requires.0.small _ c.if-k-m.true in omega (arith, small, R.column-at 0 c.args.marks.now c.find_name-k.result)

pub returns-then-k-m : goal.returns-then-k-m
returns-then-k-m c =
    W.marked-plain _ _ c.args.marks.now _ (c.requires.0.small _ c.if-k-m.true) (L.lookup-base _ _ _ _ _ _ _ _ c.if-k-m.true c.requires.1 (c.find_label-i.ensures.none c.if-i-m.false) (c.find_name-k.ensures.1 c.if-k-m.true))

pub returns : goal.returns
returns c =
    W.found_none _ _ (L.lookup-none _ _ _ _ _ _ _ (c.find_label-i.ensures.none c.if-i-m.false) (L.unlisted _ _ _ _ _ (c.find_name-k.ensures.2 (omega arith) (c.requires.0.bases.hinted c.requires.0.few))))
