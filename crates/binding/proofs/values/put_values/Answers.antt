-- `binding::values/put_values` meets its contract. Assumes nothing.
use mathlib.Core.Path.{ap}
use native.Mathlib.Omega.{arith}
use Rattle.cursor.proofs.Laws.{line-there}
use Rattle.emit.proofs.Writing.{left-all, left-as, left-next, left-none}
use Rattle.names.specs.bridge.Names.{names_in}
use Rattle.binding.proofs.Valued as Vd
use Rattle.binding.proofs.values.put_values.Invariants.{at}
use Rattle.binding.proofs.values.put_values.Goals as goal

pub loop-c-init : goal.loop-c-init
loop-c-init c = rw c.new-c.ensures.0 (c.requires.1, left-all _)

pub returns-then-line-sets : goal.returns-then-line-sets
returns-then-line-sets c =
    let l = line-there _ _ _ c.next_line-line.ensures.1 in left-none (left-as (Vd.values-stop _ _ _ _ l c.loop-c.invariant.0 c.if-line-sets.true) c.loop-c.invariant.1)

pub put_fields-requires : goal.put_fields-requires
put_fields-requires c =
    let n = c.next_line-line.ensures.1 in let high = n.high in let o = c.if-line-sets.false in (c.requires.0, n.low, omega (arith, high, o))

pub line_done-c-requires : goal.line_done-c-requires
line_done-c-requires c =
    let h = c.next_line-line.ensures.1.high in let n = c.if-line-sets.false in let g = c.well_formed in omega (arith, h, n, g)

pub loop-c-smaller : goal.loop-c-smaller
loop-c-smaller c =
    let e = ap at c.line_done-c.ensures in let low = c.next_line-line.ensures.1.low in let t = c.loop-c-test.true in omega (arith, e, low, t)

pub loop-c-preserved : goal.loop-c-preserved
loop-c-preserved c =
    let l = line-there _ _ _ c.next_line-line.ensures.1 in let v = c.loop-c.invariant in let o = c.if-line-sets.false in let e = ap at c.line_done-c.ensures in rw e (Vd.values-ended (names_in c.args.tree.now c.args.columns.now c.args.n) _ _ _ l o v.0, left-next (left-as (Vd.values-next _ _ _ _ l o) v.1) (left-none (left-next c.put_fields.ensures c.put.ensures)))

pub returns : goal.returns
returns c = left-none (left-as (Vd.values-done _ _ _ c.loop-c-test.false) c.loop-c.invariant.1)
