-- `expressing::filters/filters_not_found` meets its contract. Assumes nothing.
use mathlib.Core.Path.{sym}
use native.Mathlib.Omega.{arith}
use Rattle.answers.specs.Both.{answer_of, many_of}
use Rattle.answers.proofs.Both as Both
use Rattle.expressing.proofs.Counted as C
use Rattle.expressing.proofs.Whole as Wh
use Rattle.expressing.proofs.filters.filters_not_found.Goals as goal

pub slice_bounds-numbers-end : goal.slice_bounds-numbers-end
slice_bounds-numbers-end c =
    let k = c.note_filters-noted.ensures in let a = k.rest in let b = k.numbers_long in omega (arith, a, b)

pub slice_bounds-copy_listed-end : goal.slice_bounds-copy_listed-end
slice_bounds-copy_listed-end c = let k = c.note_filters-noted in sym (C.numbers-many _ _ _ _ _ k.result k.ensures)

pub returns : goal.returns
returns c =
    let p = c.requires in let k = c.note_filters-noted in Both.answered-both _ _ _ _ _ _ _ _ (answer_of c.copy_listed.result) (many_of c.copy_listed.result) (Wh.not_found _ _ p.0.0 p.1.0 p.0.1 p.1.1 p.2) (Wh.all_listed _ _ p.0.0 p.1.0 p.0.1 p.1.1 p.2 _ _ _ k.result k.ensures) c.copy_listed.ensures
