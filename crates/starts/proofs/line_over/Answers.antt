-- `starts::line_over` meets its contract. Assumes nothing.
use mathlib.Core.Path.{refl, ap, ◌∙◌}
use native.Mathlib.Omega.{arith}
use Rattle.converting.specs.Starts.{less}
use Rattle.starts.proofs.Ordering as O
use Rattle.starts.proofs.line_over.Goals as goal

pub loop-low-init : goal.loop-low-init
loop-low-init c = (O.between_start _ _ _ c.requires.0 _, λ z. absurd (z refl))

pub overflow_add-mid : goal.overflow_add-mid
overflow_add-mid c = let v = c.loop-low.invariant.0.2 in let f = c.requires.0.few in omega arith

pub bounds-keys-mid : goal.bounds-keys-mid
bounds-keys-mid c =
    let v = c.loop-low.invariant.0.2 in let f = c.requires.0.few in let r = c.requires.0.room in omega arith

pub returns-then-r-old : goal.returns-then-r-old
returns-then-r-old c =
    let v = c.loop-low.invariant.0.2 in O.taken _ _ _ c.requires.0 _ c.requires.1 _ (omega (arith, c.loop-low-test.true)) _ c.field_at-old.ensures _ c.shared-r.ensures c.if-r-old.true

pub is_less-requires : goal.is_less-requires
is_less-requires c = (c.shared-r.ensures, c.if-r-old.false)

pub loop-low-smaller-then-is_less : goal.loop-low-smaller-then-is_less
loop-low-smaller-then-is_less c = omega (arith, c.loop-low-test.true)

pub loop-low-preserved-then-is_less : goal.loop-low-preserved-then-is_less
loop-low-preserved-then-is_less c =
    let v = c.loop-low.invariant.0 in let p = v.2 in let t = c.loop-low-test.true in ((v.0, O.below _ _ _ c.requires.0 _ _ (omega arith) _ (c.is_less.ensures ∙ ap (less _) c.field_at-old.ensures) c.if-is_less.true, omega arith), c.loop-low.invariant.1)

pub overflow_add-low : goal.overflow_add-low
overflow_add-low c = let v = c.loop-low.invariant.0.2 in let f = c.requires.0.few in omega arith

pub loop-low-smaller : goal.loop-low-smaller
loop-low-smaller c = omega (arith, c.loop-low-test.true)

pub loop-low-preserved : goal.loop-low-preserved
loop-low-preserved c =
    let v = c.loop-low.invariant.0 in let p = v.2 in let t = c.loop-low-test.true in ((O.above _ _ _ c.requires.0 _ _ (omega arith) _ (c.is_less.ensures ∙ ap (less _) c.field_at-old.ensures) c.if-is_less.false, v.1, v.2), O.untaken c.args.text.now c.args.keys.now _ _ _ c.field_at-old.ensures _ c.shared-r.ensures c.if-r-old.false)

pub returns : goal.returns
returns c =
    let v = c.loop-low.invariant in O.none-covers _ _ _ c.requires.0 _ c.requires.1 _ _ v.0 v.1 c.loop-low-test.false
