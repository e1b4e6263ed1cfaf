-- `starts::in_order` meets its contract. Assumes nothing.
use mathlib.Core.Path.{ap₂, ◌∙◌}
use native.Mathlib.Omega.{arith}
use Rattle.converting.specs.bridge.Order.{before}
use Rattle.starts.proofs.Ordering as O
use Rattle.starts.proofs.in_order.Goals as goal

pub loop-i-init : goal.loop-i-init
loop-i-init c = O.left-start _ _ _

pub overflow_sub-a : goal.overflow_sub-a
overflow_sub-a c = let v = c.loop-i.invariant.0 in omega arith

pub returns-then-not-is_before : goal.returns-then-not-is_before
returns-then-not-is_before c =
    O.not-ordered _ _ _ c.requires.0 c.requires.1 _ c.loop-i.invariant c.loop-i-test.true _ (c.is_before.ensures ∙ ap₂ before c.field_at.ensures c.field_at-in-loop-i.ensures) c.if-not-is_before.true-raw

pub loop-i-preserved : goal.loop-i-preserved
loop-i-preserved c =
    O.left-next _ _ _ c.requires.0 c.requires.1 _ c.loop-i.invariant c.loop-i-test.true _ (c.is_before.ensures ∙ ap₂ before c.field_at.ensures c.field_at-in-loop-i.ensures) c.if-not-is_before.false-raw

pub returns : goal.returns
returns c = O.all-ordered _ _ _ c.requires.0 c.requires.1 _ c.loop-i.invariant c.loop-i-test.false
