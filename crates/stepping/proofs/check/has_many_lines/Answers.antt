-- `stepping::check/has_many_lines` meets its contract. Assumes nothing.
use native.Mathlib.Omega.{arith}
use Rattle.parted.specs.Parted.{texts}
use Rattle.stepping.proofs.Checks.{sums-start, sums-many, sums_next, sums-done}
use Rattle.stepping.proofs.check.has_many_lines.Goals as goal

pub loop-k-init : goal.loop-k-init
loop-k-init c = sums-start _

pub text_at-requires : goal.text_at-requires
text_at-requires c =
    let p = c.requires.0 in (omega (arith, p.few, c.loop-k-test.true), omega (arith, c.loop-k-test.true), p.parted)

pub overflow_sub-total : goal.overflow_sub-total
overflow_sub-total c = omega (arith, c.loop-k.invariant.0)

pub returns-then-total-lines : goal.returns-then-total-lines
returns-then-total-lines c =
    let l = c.loop-k in sums-many (texts c.args.input.now) l.total l.k _ l.invariant (omega (arith, c.requires.1, c.loop-k-test.true)) _ c.text_at.ensures c.count_lines-lines.ensures c.if-total-lines.true

pub overflow_add-total : goal.overflow_add-total
overflow_add-total c = omega (arith, c.loop-k.invariant.0, c.if-total-lines.false)

pub loop-k-preserved : goal.loop-k-preserved
loop-k-preserved c =
    let l = c.loop-k in sums_next (texts c.args.input.now) l.total l.k _ l.invariant (omega (arith, c.requires.1, c.loop-k-test.true)) _ c.text_at.ensures c.count_lines-lines.ensures c.if-total-lines.false

pub returns : goal.returns
returns c =
    let l = c.loop-k in sums-done (texts c.args.input.now) l.total l.k l.invariant (omega (arith, c.requires.1, c.loop-k-test.false))
