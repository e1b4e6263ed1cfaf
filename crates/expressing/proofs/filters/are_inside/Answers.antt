-- `expressing::filters/are_inside` meets its contract. Assumes nothing.
use Prim.Native.Nat.{ℕ}
use mathlib.Core.Path.{ap, ◌∙◌}
use native.Mathlib.Omega.{arith}
use Rattle.text.specs.Text.{lines_from}
use Rattle.scoping.specs.Sets.{all}
use Rattle.cursor.proofs.Laws.{line-there}
use Rattle.expressing.specs.bridge.Filtered.{ref_below}
use Rattle.expressing.proofs.Counted as C
use Rattle.expressing.proofs.filters.are_inside.Invariants.{at}
use Rattle.expressing.proofs.filters.are_inside.Goals as goal

pub loop-c-init : goal.loop-c-init
loop-c-init c = ap (λ (k : ℕ). all (ref_below c.args.width) (lines_from c.args.filters.now k)) c.new-c.ensures.0

pub returns-then-line-filters : goal.returns-then-line-filters
returns-then-line-filters c =
    let l = line-there _ _ _ c.next_line-line.ensures.1 in C.refs-stop (ref_below c.args.width) _ _ _ l (C.no_ref _) c.if-line-filters.true ∙ c.loop-c.invariant

pub is_inside-requires : goal.is_inside-requires
is_inside-requires c =
    let n = c.next_line-line.ensures.1 in let high = n.high in let o = c.if-line-filters.false in (n.low, omega (arith, high, o))

pub returns-then-not-is_inside : goal.returns-then-not-is_inside
returns-then-not-is_inside c =
    let l = line-there _ _ _ c.next_line-line.ensures.1 in C.refs_out (ref_below c.args.width) _ _ _ l c.if-line-filters.false _ c.is_inside.ensures c.if-not-is_inside.true-raw ∙ c.loop-c.invariant

pub line_done-c-requires : goal.line_done-c-requires
line_done-c-requires c =
    let h = c.next_line-line.ensures.1.high in let n = c.if-line-filters.false in let g = c.well_formed in omega (arith, h, n, g)

pub loop-c-smaller : goal.loop-c-smaller
loop-c-smaller c =
    let e = ap at c.line_done-c.ensures in let low = c.next_line-line.ensures.1.low in let t = c.loop-c-test.true in omega (arith, e, low, t)

pub loop-c-preserved : goal.loop-c-preserved
loop-c-preserved c =
    let l = line-there _ _ _ c.next_line-line.ensures.1 in ap (λ (k : ℕ). all (ref_below c.args.width) (lines_from c.args.filters.now k)) (ap at c.line_done-c.ensures) ∙ C.refs-next (ref_below c.args.width) _ _ _ l c.if-line-filters.false _ c.is_inside.ensures c.if-not-is_inside.false-raw ∙ c.loop-c.invariant

pub returns : goal.returns
returns c = C.refs-done (ref_below c.args.width) _ _ c.loop-c-test.false ∙ c.loop-c.invariant
