-- `lists::check_pairs` meets its contract. Assumes nothing.
use mathlib.Core.Path.{refl, ap, ◌∙◌}
use native.Mathlib.Omega.{arith}
use Rattle.lists.proofs.Going as G
use Rattle.lists.proofs.Turns as T
use Rattle.lists.proofs.check_pairs.Invariants.{at}
use Rattle.lists.proofs.check_pairs.Goals as goal

pub returns-then-text-gt16384 : goal.returns-then-text-gt16384
returns-then-text-gt16384 c = G.too_long _ _ _ _ _ (omega (arith, c.if-text-gt16384.true))

pub loop-c-init : goal.loop-c-init
loop-c-init c =
    (G.going_start _ _ _ _ _ _ c.new-c.ensures.0 (omega (arith, c.if-text-gt16384.false)) c.requires, refl)

pub shape_of-keys-then-l-text : goal.shape_of-keys-then-l-text
shape_of-keys-then-l-text c = c.loop-c.invariant.1

pub returns-then-l-text : goal.returns-then-l-text
returns-then-l-text c =
    T.done-open _ _ _ _ _ _ _ c.loop-c.invariant.0 c.next_line-l.result (ap at c.next_line-l.ensures.0) c.next_line-l.ensures.1 _ c.loop-c-test.true (omega (arith, c.next_line-l.ensures.1.high, c.if-l-text.true))

pub pair_at-requires : goal.pair_at-requires
pair_at-requires c =
    let l = c.next_line-l in let same = ap at l.ensures.0 in let low = l.ensures.1.low in let high = l.ensures.1.high in (omega arith, omega (arith, c.if-l-text.false))

pub shape_of-keys-in_default : goal.shape_of-keys-in_default
shape_of-keys-in_default c = c.loop-c.invariant.1

pub returns-in_default : goal.returns-in_default
returns-in_default c =
    T.done-bad _ _ _ _ _ _ _ c.loop-c.invariant.0 _ (ap at c.next_line-l.ensures.0) c.next_line-l.ensures.1 _ c.pair_at.ensures c.if-l-text.false _ c.in_default.is

pub is_fresh-requires : goal.is_fresh-requires
is_fresh-requires c =
    let told = T.found _ _ _ _ _ _ _ c.loop-c.invariant.0 _ (ap at c.next_line-l.ensures.0) c.next_line-l.ensures.1 _ c.pair_at.ensures c.if-l-text.false _ _ c.in-Some.is in let high = c.next_line-l.ensures.1.high in (told.0, omega arith, c.loop-c.invariant.0.room)

pub shape_of-keys-then-not-is_fresh : goal.shape_of-keys-then-not-is_fresh
shape_of-keys-then-not-is_fresh c = c.loop-c.invariant.1

pub returns-then-not-is_fresh : goal.returns-then-not-is_fresh
returns-then-not-is_fresh c =
    T.done-twice _ _ _ _ _ _ _ c.loop-c.invariant.0 _ (ap at c.next_line-l.ensures.0) c.next_line-l.ensures.1 _ c.pair_at.ensures c.if-l-text.false _ _ c.in-Some.is _ c.is_fresh.ensures _ c.if-not-is_fresh.true-raw

pub shape_of-keys-then-n-eq-ENTRIES : goal.shape_of-keys-then-n-eq-ENTRIES
shape_of-keys-then-n-eq-ENTRIES c = c.loop-c.invariant.1

pub returns-then-n-eq-ENTRIES : goal.returns-then-n-eq-ENTRIES
returns-then-n-eq-ENTRIES c =
    T.done-over _ _ _ _ _ _ _ c.loop-c.invariant.0 _ (ap at c.next_line-l.ensures.0) c.next_line-l.ensures.1 _ c.pair_at.ensures c.if-l-text.false _ _ c.in-Some.is _ c.is_fresh.ensures c.if-not-is_fresh.false-raw _ (omega (arith, c.loop-c.invariant.0.most, c.if-n-eq-ENTRIES.true))

pub keep-requires : goal.keep-requires
keep-requires c =
    let told = T.found _ _ _ _ _ _ _ c.loop-c.invariant.0 _ (ap at c.next_line-l.ensures.0) c.next_line-l.ensures.1 _ c.pair_at.ensures c.if-l-text.false _ _ c.in-Some.is in let high = c.next_line-l.ensures.1.high in (T.roomy _ _ _ _ _ _ _ c.loop-c.invariant.0 _ (ap at c.next_line-l.ensures.0) c.next_line-l.ensures.1 _ c.pair_at.ensures c.if-l-text.false _ _ c.in-Some.is (omega (arith, c.loop-c.invariant.0.most, c.if-n-eq-ENTRIES.false)), told.0, told.1, omega (arith, c.if-text-gt16384.false))

pub overflow_add-n : goal.overflow_add-n
overflow_add-n c = let most = c.loop-c.invariant.0.most in omega arith

pub loop-c-smaller : goal.loop-c-smaller
loop-c-smaller c =
    let told = T.found _ _ _ _ _ _ _ c.loop-c.invariant.0 _ (ap at c.next_line-l.ensures.0) c.next_line-l.ensures.1 _ c.pair_at.ensures c.if-l-text.false _ _ c.in-Some.is in let high = c.next_line-l.ensures.1.high in let low = c.next_line-l.ensures.1.low in omega (arith, c.loop-c-test.true)

pub loop-c-preserved : goal.loop-c-preserved
loop-c-preserved c =
    (T.going_next _ _ _ _ _ _ _ c.loop-c.invariant.0 _ (ap at c.next_line-l.ensures.0) c.next_line-l.ensures.1 _ c.pair_at.ensures c.if-l-text.false _ _ c.in-Some.is _ c.is_fresh.ensures c.if-not-is_fresh.false-raw _ (omega (arith, c.loop-c.invariant.0.most, c.if-n-eq-ENTRIES.false)) c.keep.ensures, c.keep.auto.keys ∙ c.loop-c.invariant.1)

pub shape_of-keys : goal.shape_of-keys
shape_of-keys c = c.loop-c.invariant.1

pub returns : goal.returns
returns c = G.done_end _ _ _ _ _ _ _ c.loop-c.invariant.0 c.loop-c-test.false
