-- `expressing::place/is_true_first` meets its contract. Assumes nothing.
use native.Mathlib.Omega.{arith}
use Rattle.expressing.proofs.Counted as C
use Rattle.expressing.proofs.place.is_true_first.Goals as goal

pub returns-then-end-filters : goal.returns-then-end-filters
returns-then-end-filters c = C.not-true-first _ _ _ c.requires c.if-end-filters.true

pub is_constant_true-requires : goal.is_constant_true-requires
is_constant_true-requires c =
    let l = c.requires in let h = l.high in let n = c.if-end-filters.false in (C.first-low _ _ _ l n, omega (arith, h, n))

pub returns : goal.returns
returns c = C.true-first _ _ _ c.requires c.if-end-filters.false _ c.is_constant_true.ensures
