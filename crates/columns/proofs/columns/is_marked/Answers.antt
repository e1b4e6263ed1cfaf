-- `columns::columns/is_marked` meets its contract. Assumes nothing.
use borrow.Author.Rules.{rules}
use mathlib.Core.Path.{sym, ap, ◌∙◌}
use native.Mathlib.Omega.{arith}
use Rattle.algebra.specs.Valid.{mem}
use Rattle.columns.proofs.New as N
use Rattle.columns.proofs.Picked as L
use Rattle.columns.proofs.columns.is_marked.Goals as goal

pub loop-i-init : goal.loop-i-init
unfolding mem
loop-i-init c = (omega arith, L.all_named _ _ _)

pub offset_bounds-spots-i : goal.offset_bounds-spots-i
unfolding mem
offset_bounds-spots-i c = search rules

pub bounds-spots-i : goal.bounds-spots-i
unfolding mem
bounds-spots-i c = let m = c.requires.many in omega arith

pub bit_at-marked-requires : goal.bit_at-marked-requires
unfolding mem
bit_at-marked-requires c = search rules

pub bounds-s-1 : goal.bounds-s-1
unfolding mem
bounds-s-1 c = search rules

pub wide-requires : goal.wide-requires
unfolding mem
wide-requires c = search rules

pub is_column-requires : goal.is_column-requires
unfolding mem
is_column-requires c = let e = c.requires.each _ c.loop-i-test.true in let w = c.wide.ensures in omega arith

pub returns-then-is_column : goal.returns-then-is_column
unfolding mem
returns-then-is_column c =
    L.marked-here _ _ _ _ _ (N.columns-left _ c.args.spots.now _ c.requires.many _ c.loop-i-test.true) _ c.bit_at-marked.ensures _ _ (rw (← c.wide.ensures) c.is_column.ensures) c.if-is_column.true ∙ c.loop-i.invariant.1

pub loop-i-preserved : goal.loop-i-preserved
unfolding mem
loop-i-preserved c =
    (omega arith, L.marked_next _ _ _ _ _ (N.columns-left _ c.args.spots.now _ c.requires.many _ c.loop-i-test.true) _ c.bit_at-marked.ensures _ _ (rw (← c.wide.ensures) c.is_column.ensures) c.if-is_column.false ∙ c.loop-i.invariant.1)

pub returns : goal.returns
unfolding mem
returns c =
    ap (mem _) (sym (L.picked_none _ _ _ (N.columns-over _ c.args.spots.now _ c.requires.many _ c.loop-i-test.false))) ∙ c.loop-i.invariant.1
