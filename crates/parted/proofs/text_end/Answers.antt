-- `parted::text_end` meets its contract: no line `--` stands before the dashes passed. Assumes nothing.
use native.Mathlib.Omega.{arith}
use Rattle.parted.proofs.Bars.{clear-start, clear-find, clear_next, ends-first, ends_last}
use Rattle.parted.proofs.text_end.Goals as goal

pub loop-at-init : goal.loop-at-init
loop-at-init c = (omega arith, omega arith, clear-start _ _)

pub overflow_sub-s : goal.overflow_sub-s
overflow_sub-s c = c.find-dash.ensures.high

pub returns-then-s-dash-lt3 : goal.returns-then-s-dash-lt3
returns-then-s-dash-lt3 c =
    ends_last _ _ _ (clear-find _ _ _ _ c.loop-at.invariant.2 c.find-dash.ensures) (omega arith) (omega (arith, c.if-s-dash-lt3.true))

pub is_bar-requires : goal.is_bar-requires
is_bar-requires c =
    let f = c.find-dash.ensures in (omega (arith, f.low), omega (arith, c.if-s-dash-lt3.false), f.here (omega (arith, c.if-s-dash-lt3.false)))

pub returns-then-is_bar : goal.returns-then-is_bar
returns-then-is_bar c = let f = c.find-dash.ensures in
    ends-first _ _ _ (clear-find _ _ _ _ c.loop-at.invariant.2 f) (omega (arith, f.low)) (c.is_bar.ensures.0 c.if-is_bar.true)

pub overflow_add-at : goal.overflow_add-at
overflow_add-at c = omega arith

pub loop-at-smaller : goal.loop-at-smaller
loop-at-smaller c = let f = c.find-dash.ensures.low in omega (arith, f)

pub loop-at-preserved : goal.loop-at-preserved
loop-at-preserved c = let f = c.find-dash.ensures in
    (omega (arith, f.low), omega arith, clear_next _ _ _ (clear-find _ _ _ _ c.loop-at.invariant.2 f) (c.is_bar.ensures.1 c.if-is_bar.false))

pub returns : goal.returns
returns c = ends_last _ _ _ c.loop-at.invariant.2 (omega arith) (omega (arith, c.loop-at-test.false))
