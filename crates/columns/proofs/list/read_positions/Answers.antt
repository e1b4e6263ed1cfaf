-- `columns::list/read_positions` meets its contract. Assumes nothing.
use native.Mathlib.Omega.{arith}
use lib.ListN.{length-set}
use Rattle.columns.proofs.Positions as Q
use Rattle.columns.proofs.list.read_positions.Goals as goal

pub loop-from-init : goal.loop-from-init
loop-from-init c = (c.requires.1, c.requires.2, λ xs l. Q.going_start _ xs _ _ _ _ l)

pub returns-then-end-list : goal.returns-then-end-list
returns-then-end-list c =
    (c.loop-from.invariant.0, c.loop-from.invariant.1, λ xs l. Q.going-open _ _ _ _ _ _ _ _ (c.loop-from.invariant.2 xs l) _ _ c.loop-from-test.true c.line_end-end.ensures c.if-end-list.true)

pub position_at-p-requires : goal.position_at-p-requires
position_at-p-requires c = let h = c.line_end-end.ensures.high in let n = c.if-end-list.false in omega arith

pub returns-then-c-p : goal.returns-then-c-p
returns-then-c-p c =
    (c.loop-from.invariant.0, c.loop-from.invariant.1, λ xs l. Q.going-outside _ _ _ _ _ _ _ _ (c.loop-from.invariant.2 xs l) _ c.line_end-end.ensures c.if-end-list.false _ c.position_at-p.ensures c.if-c-p.true)

pub overflow_cast-at : goal.overflow_cast-at
overflow_cast-at c = let a = c.if-c-p.false in let b = c.requires.0 in omega arith

pub offset_bounds-at-m : goal.offset_bounds-at-m
offset_bounds-at-m c =
    let a = Q.going-low _ _ _ _ _ _ _ _ (c.loop-from.invariant.2 c.requires.3.0 c.requires.3.1) _ c.line_end-end.ensures c.if-end-list.false in let b = c.requires.3.1.few in omega arith

pub bounds-at-m : goal.bounds-at-m
bounds-at-m c =
    let a = Q.going-low _ _ _ _ _ _ _ _ (c.loop-from.invariant.2 c.requires.3.0 c.requires.3.1) _ c.line_end-end.ensures c.if-end-list.false in let b = c.requires.3.1.few in let d = c.loop-from.invariant.0 in omega arith

pub overflow_cast-lines : goal.overflow_cast-lines
overflow_cast-lines c = let a = c.loop-from-test.true in let b = c.requires.3.1.short in omega arith

pub offset_bounds-lines-m : goal.offset_bounds-lines-m
offset_bounds-lines-m c =
    let a = Q.going-low _ _ _ _ _ _ _ _ (c.loop-from.invariant.2 c.requires.3.0 c.requires.3.1) _ c.line_end-end.ensures c.if-end-list.false in let b = c.requires.3.1.few in omega arith

pub bounds-lines-m : goal.bounds-lines-m
bounds-lines-m c =
    let a = Q.going-low _ _ _ _ _ _ _ _ (c.loop-from.invariant.2 c.requires.3.0 c.requires.3.1) _ c.line_end-end.ensures c.if-end-list.false in let b = c.requires.3.1.few in let d = c.loop-from.invariant.1 in omega arith

pub overflow_add-m : goal.overflow_add-m
overflow_add-m c =
    let a = Q.going-low _ _ _ _ _ _ _ _ (c.loop-from.invariant.2 c.requires.3.0 c.requires.3.1) _ c.line_end-end.ensures c.if-end-list.false in let b = c.requires.3.1.few in omega arith

pub overflow_add-from : goal.overflow_add-from
overflow_add-from c = let h = c.line_end-end.ensures.high in let n = c.if-end-list.false in omega arith

pub loop-from-smaller : goal.loop-from-smaller
loop-from-smaller c =
    let t = c.loop-from-test.true in let h = Q.field-low _ _ _ c.line_end-end.ensures c.if-end-list.false in let g = c.line_end-end.ensures.high in omega arith

pub loop-from-preserved : goal.loop-from-preserved
loop-from-preserved c =
    let a = Q.going-low _ _ _ _ _ _ _ _ (c.loop-from.invariant.2 c.requires.3.0 c.requires.3.1) _ c.line_end-end.ensures c.if-end-list.false in let b = c.requires.3.1.few in (simp length-set c.loop-from.invariant.0, simp length-set c.loop-from.invariant.1, λ xs l. Q.going_next _ _ _ _ _ _ _ _ (c.loop-from.invariant.2 xs l) _ c.line_end-end.ensures c.if-end-list.false _ c.position_at-p.ensures c.if-c-p.false (let d = c.loop-from.invariant.0 in omega arith) (let d = c.loop-from.invariant.1 in omega arith))

pub returns : goal.returns
returns c =
    (c.loop-from.invariant.0, c.loop-from.invariant.1, λ xs l. Q.going_done _ _ _ _ _ _ _ _ (c.loop-from.invariant.2 xs l) c.loop-from-test.false)
