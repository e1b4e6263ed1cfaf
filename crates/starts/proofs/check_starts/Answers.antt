-- `starts::check_starts` meets its contract. Assumes nothing.
use borrow.Author.Rules.{rules}
use mathlib.Core.Path.{ap}
use native.Mathlib.Omega.{arith}
use Rattle.starts.proofs.Going as G
use Rattle.starts.proofs.Turns as T
use Rattle.starts.proofs.check_starts.Invariants.{at}
use Rattle.starts.proofs.check_starts.Goals as goal

pub returns-then-text-gt16384 : goal.returns-then-text-gt16384
returns-then-text-gt16384 c = G.too_long _ _ (omega (arith, c.if-text-gt16384.true))

pub loop-c-init : goal.loop-c-init
loop-c-init c = G.going_start _ _ _ c.new-c.ensures.0 (omega (arith, c.if-text-gt16384.false)) (search rules)

pub returns-then-l-text : goal.returns-then-l-text
returns-then-l-text c =
    T.done-open _ _ _ _ c.loop-c.invariant c.next_line-l.result (ap at c.next_line-l.ensures.0) c.next_line-l.ensures.1 _ c.loop-c-test.true (omega (arith, c.next_line-l.ensures.1.high, c.if-l-text.true))

pub starts_at-requires : goal.starts_at-requires
starts_at-requires c =
    let l = c.next_line-l in let same = ap at l.ensures.0 in let low = l.ensures.1.low in let high = l.ensures.1.high in (omega arith, omega (arith, c.if-l-text.false))

pub returns-in_default : goal.returns-in_default
returns-in_default c =
    T.done-bad _ _ _ _ c.loop-c.invariant _ (ap at c.next_line-l.ensures.0) c.next_line-l.ensures.1 _ c.starts_at.ensures c.if-l-text.false _ c.in_default.is

pub returns-then-n-eq-STARTS : goal.returns-then-n-eq-STARTS
returns-then-n-eq-STARTS c =
    T.done-over _ _ _ _ c.loop-c.invariant _ (ap at c.next_line-l.ensures.0) c.next_line-l.ensures.1 _ c.starts_at.ensures c.if-l-text.false _ _ c.in-Some.is _ (omega (arith, c.loop-c.invariant.most, c.if-n-eq-STARTS.true))

pub keep-requires : goal.keep-requires
keep-requires c =
    let two = T.found _ _ _ _ c.loop-c.invariant _ (ap at c.next_line-l.ensures.0) c.next_line-l.ensures.1 _ c.starts_at.ensures c.if-l-text.false _ _ c.in-Some.is in let high = c.next_line-l.ensures.1.high in let most = c.loop-c.invariant.most in let room = c.loop-c.invariant.room in (omega (arith, c.if-n-eq-STARTS.false), two.0, two.1, omega (arith, c.if-text-gt16384.false))

pub overflow_add-n : goal.overflow_add-n
overflow_add-n c = let most = c.loop-c.invariant.most in omega arith

pub loop-c-smaller : goal.loop-c-smaller
loop-c-smaller c =
    let two = T.found _ _ _ _ c.loop-c.invariant _ (ap at c.next_line-l.ensures.0) c.next_line-l.ensures.1 _ c.starts_at.ensures c.if-l-text.false _ _ c.in-Some.is in let low = c.next_line-l.ensures.1.low in let high = c.next_line-l.ensures.1.high in omega (arith, c.loop-c-test.true)

pub loop-c-preserved : goal.loop-c-preserved
loop-c-preserved c =
    T.going_next _ _ _ _ c.loop-c.invariant _ (ap at c.next_line-l.ensures.0) c.next_line-l.ensures.1 _ c.starts_at.ensures c.if-l-text.false _ _ c.in-Some.is _ (omega (arith, c.loop-c.invariant.most, c.if-n-eq-STARTS.false)) c.keep.ensures

pub returns : goal.returns
returns c = G.done_end _ _ _ _ c.loop-c.invariant c.loop-c-test.false
