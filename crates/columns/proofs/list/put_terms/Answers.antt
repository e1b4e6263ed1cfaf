-- `columns::list/put_terms` meets its contract. Assumes nothing.
use mathlib.Core.Path.{refl}
use native.Mathlib.Omega.{arith}
use mathlib.Core.Bool.{false}
use Rattle.algebra.specs.Tally.{bounds}
use Rattle.emit.proofs.Writing.{left-all, left-as, left-next, left-none}
use Rattle.columns.proofs.Positions as Q
use Rattle.columns.proofs.list.put_terms.Goals as goal

pub note_order-requires : goal.note_order-requires
note_order-requires c =
    let d = c.requires in (d.0, d.1, refl, Q.below_more _ _ d.2 d.3, λ p l. Q.order-blank _ bounds.entries d.0 p l)

pub loop-p-init : goal.loop-p-init
loop-p-init c = (omega arith, λ xs k. left-all _)

pub loop-p-preserved : goal.loop-p-preserved
loop-p-preserved c =
    (omega arith, λ xs k. left-next (left-as (Q.terms-next xs _ _ _ _ (let t = c.loop-p-test.true in let h = c.requires.2 in omega arith) c.wide.ensures c.note_order.ensures.1 k.positions) (c.loop-p.invariant.1 xs k)) (c.put_term.ensures xs false _ k))

pub returns : goal.returns
returns c =
    λ xs k. left-none (left-as (Q.terms-done xs _ _ c.loop-p-test.false (Q.all_of _ _ _ k.positions c.requires.3)) (c.loop-p.invariant.1 xs k))
