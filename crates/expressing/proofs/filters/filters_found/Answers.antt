-- `expressing::filters/filters_found` meets its contract. Assumes nothing.
use borrow.Author.Rules.{rules}
use mathlib.Core.Path.{sym}
use native.Mathlib.Omega.{arith}
use Rattle.answers.specs.Both.{answer_of, many_of}
use Rattle.answers.proofs.Both as Both
use Rattle.filtering.proofs.Read as R
use Rattle.placing.proofs.Inner as I
use Rattle.names.proofs.Laws.{listing-long}
use Rattle.expressing.proofs.Counted as C
use Rattle.expressing.proofs.Whole as Wh
use Rattle.expressing.proofs.filters.filters_found.Goals as goal

pub read_columns-n-requires : goal.read_columns-n-requires
read_columns-n-requires c =
    let p = c.requires in (R.tree-short _ p.0.0 p.0.1, I.columns-low _ p.0.0 p.0.1 _ _ p.2, search rules)

pub returns-then-not-are_inside : goal.returns-then-not-are_inside
returns-then-not-are_inside c =
    let p = c.requires in Wh.outside _ _ p.0.0 p.1.0 p.0.1 p.1.1 _ _ p.2 _ _ c.read_columns-n.ensures.1 (listing-long _ _ _ _) _ c.are_inside.ensures _ _ c.if-not-are_inside.true-raw

pub slice_bounds-numbers-end : goal.slice_bounds-numbers-end
slice_bounds-numbers-end c =
    let k = c.note_filters-noted.ensures in let a = k.rest in let b = k.numbers_long in omega (arith, a, b)

pub slice_bounds-copy_listed-end : goal.slice_bounds-copy_listed-end
slice_bounds-copy_listed-end c = let k = c.note_filters-noted in sym (C.numbers-many _ _ _ _ _ k.result k.ensures)

pub returns-then-many-eq0 : goal.returns-then-many-eq0
returns-then-many-eq0 c =
    let p = c.requires in let k = c.note_filters-noted in Both.answered-both _ _ _ _ _ _ _ _ (answer_of c.copy_listed.result) (many_of c.copy_listed.result) (Wh.none-placed _ _ p.0.0 p.1.0 p.0.1 p.1.1 _ _ p.2 _ _ c.read_columns-n.ensures.1 (listing-long _ _ _ _) _ c.are_inside.ensures c.if-not-are_inside.false-raw _ _ k.result k.ensures c.if-many-eq0.true) (Wh.others-listed _ _ p.0.0 p.1.0 p.0.1 p.1.1 _ _ p.2 _ _ c.read_columns-n.ensures.1 (listing-long _ _ _ _) _ c.are_inside.ensures c.if-not-are_inside.false-raw _ _ k.result k.ensures) c.copy_listed.ensures

pub inner_end-end-requires : goal.inner_end-end-requires
inner_end-end-requires c = let p = c.requires in (p.0, (_, p.2), p.3)

pub slice_bounds-starts-end : goal.slice_bounds-starts-end
slice_bounds-starts-end c =
    let k = c.note_filters-noted.ensures in let a = k.few in let b = k.starts-long in omega (arith, a, b)

pub slice_bounds-put_listed-end : goal.slice_bounds-put_listed-end
slice_bounds-put_listed-end c = let k = c.note_filters-noted in sym (C.starts-many _ _ _ _ _ k.result k.ensures)

pub slice_bounds-numbers-end-2 : goal.slice_bounds-numbers-end-2
slice_bounds-numbers-end-2 c =
    let k = c.note_filters-noted.ensures in let a = k.rest in let b = k.numbers_long in omega (arith, a, b)

pub slice_bounds-put_listed-end-2 : goal.slice_bounds-put_listed-end-2
slice_bounds-put_listed-end-2 c = let k = c.note_filters-noted in sym (C.numbers-many _ _ _ _ _ k.result k.ensures)

pub put_listed-requires : goal.put_listed-requires
put_listed-requires c =
    let p = c.requires in let k = c.note_filters-noted in let z = C.starts-many _ _ _ _ _ k.result k.ensures in let n = c.if-many-eq0.false in let f = k.ensures.few in (c.inner_end-end.ensures.low, c.inner_end-end.ensures.high, R.tree-short _ p.0.0 p.0.1, c.read_columns-n.ensures.0, p.3, omega (arith, z, n), omega (arith, z, f), Wh.noted-size _ _ p.0.0 p.1.0 p.0.1 p.1.1 _ _ p.2 _ _ c.read_columns-n.ensures.1 (listing-long _ _ _ _) _ c.are_inside.ensures c.if-not-are_inside.false-raw _ _ k.result k.ensures)

pub returns : goal.returns
returns c =
    let p = c.requires in let k = c.note_filters-noted in Both.answered-both _ _ _ _ _ _ _ _ (answer_of c.put_listed.result) (many_of c.put_listed.result) (Wh.some-placed-is _ _ p.0.0 p.1.0 p.0.1 p.1.1 _ _ p.2 _ _ c.read_columns-n.ensures.1 (listing-long _ _ _ _) _ c.are_inside.ensures c.if-not-are_inside.false-raw _ _ k.result k.ensures c.if-many-eq0.false _ c.inner_end-end.ensures _ (C.starts-many _ _ _ _ _ k.result k.ensures)) (Wh.others-listed _ _ p.0.0 p.1.0 p.0.1 p.1.1 _ _ p.2 _ _ c.read_columns-n.ensures.1 (listing-long _ _ _ _) _ c.are_inside.ensures c.if-not-are_inside.false-raw _ _ k.result k.ensures) c.put_listed.ensures
