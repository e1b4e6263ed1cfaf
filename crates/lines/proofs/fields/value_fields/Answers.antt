-- `lines::fields/value_fields` meets its contract. Assumes nothing.
use Prim.Native.Nat.{◌+◌, ◌-◌}
use borrow.Author.Rules.{rules}
use mathlib.Core.Path.{◌≡◌, refl}
use native.Mathlib.Omega.{arith}
use Rattle.lines.proofs.RepeatLaw as R
use Rattle.lines.specs.bridge.Steps.{rest_in}
use Rattle.lines.specs.bridge.Line.{take_value, take_values}
use Rattle.lines.proofs.fields.value_fields.Goals as goal

pub loop-done-init : goal.loop-done-init
loop-done-init c =
    let none : c.args.times - 0 ≡ c.args.times = omega arith in rw none (c.requires.0, (refl, refl), search rules, c.requires.1, refl)

pub value_field-d-requires : goal.value_field-d-requires
value_field-d-requires c = c.loop-done.invariant.0

pub overflow_add-d : goal.overflow_add-d
overflow_add-d c =
    let x = (R.follows-along _ _ _ _ c.value_field-d.ensures).0 in let y = c.loop-done.invariant.0.ends in let z = c.loop-done.invariant.0.short in omega arith

pub returns-then-d : goal.returns-then-d
returns-then-d c =
    R.repeat-fault _ _ _ _ (take_value) (λ k l. rest_in (take_values k l)) _ _ (R.values-more) c.loop-done.invariant.4 c.loop-done.invariant.1 c.loop-done.invariant.2 c.value_field-d.ensures (omega (arith, c.loop-done-test.true)) c.if-d.true

pub loop-done-preserved : goal.loop-done-preserved
loop-done-preserved c =
    let less : c.args.times - (c.loop-done.done + 1) ≡ c.args.times - c.loop-done.done - 1 = omega arith in
    let x = R.repeat-next _ _ _ _ (take_value) (λ k l. rest_in (take_values k l)) _ _ (R.values-more) c.loop-done.invariant.4 c.loop-done.invariant.1 c.loop-done.invariant.2 c.value_field-d.ensures (omega (arith, c.loop-done-test.true)) c.if-d.false in rw less (R.follows-line _ _ _ _ c.loop-done.invariant.0 c.value_field-d.ensures, x.1, x.2, x.3, x.0)

pub returns : goal.returns
returns c =
    R.repeat-end _ _ _ (λ k l. rest_in (take_values k l)) _ _ (R.values-end) c.loop-done.invariant.4 (omega (arith, c.loop-done-test.false)) c.loop-done.invariant.1 c.loop-done.invariant.2 c.loop-done.invariant.3
