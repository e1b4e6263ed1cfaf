-- `expressing::place/note_filters` meets its contract. Assumes nothing.
use native.Mathlib.Omega.{arith}
use Rattle.names.specs.bridge.Names.{names_in}
use Rattle.expressing.proofs.Counted as C
use Rattle.expressing.proofs.place.note_filters.Goals as goal

pub loop-i-init : goal.loop-i-init
loop-i-init c = let p = c.requires in C.going_start _ _ _ _ _ p.2 p.3

pub overflow_sub-result : goal.overflow_sub-result
overflow_sub-result c = let l = c.loop-i.invariant.low in omega (arith, l)

pub returns-then-filters-from : goal.returns-then-filters-from
returns-then-filters-from c =
    let a = c.args in C.going_end _ (names_in a.tree.now a.columns.now a.n) _ _ _ _ _ _ _ c.loop-i.invariant c.if-filters-from.true

pub is_true_first-requires : goal.is_true_first-requires
is_true_first-requires c = c.line_from-line.ensures

pub bounds-starts-many : goal.bounds-starts-many
bounds-starts-many c =
    let g = c.loop-i.invariant in let l = g.low in let s = g.starts-long in let t = c.loop-i-test.true in omega (arith, l, s, t)

pub overflow_cast-numbers : goal.overflow_cast-numbers
overflow_cast-numbers c = let l = c.loop-i.invariant.low in let t = c.loop-i-test.true in omega (arith, l, t)

pub overflow_sub-numbers : goal.overflow_sub-numbers
overflow_sub-numbers c = let l = c.loop-i.invariant.low in omega (arith, l)

pub bounds-numbers-i : goal.bounds-numbers-i
bounds-numbers-i c =
    let g = c.loop-i.invariant in let l = g.low in let s = g.numbers_long in let t = c.loop-i-test.true in omega (arith, l, s, t)

pub one_more-many-requires : goal.one_more-many-requires
one_more-many-requires c = let l = c.loop-i.invariant.low in let t = c.loop-i-test.true in omega (arith, l, t)

pub loop-i-preserved : goal.loop-i-preserved
loop-i-preserved c = let a = c.args in
    C.going_next _ (names_in a.tree.now a.columns.now a.n) _ _ _ _ _ _ _ c.loop-i.invariant c.loop-i-test.true (let n = c.if-filters-from.false in omega (arith, n)) _ c.line_from-line.ensures _ _ c.try_filter-tried.ensures _ _ _ c.is_true_first.ensures c.both-taken.ensures c.both-placed.ensures _ _ c.placed_end-size.ensures c.one_more-many.ensures

pub overflow_sub-result-2 : goal.overflow_sub-result-2
overflow_sub-result-2 c = let l = c.loop-i.invariant.low in let h = c.loop-i.invariant.high in omega (arith, l, h)

pub returns : goal.returns
returns c =
    let a = c.args in C.going_done _ (names_in a.tree.now a.columns.now a.n) _ _ _ _ _ _ _ c.loop-i.invariant c.loop-i-test.false
