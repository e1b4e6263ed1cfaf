-- `lists::is_fresh` meets its contract. Assumes nothing.
use mathlib.Core.Path.{refl, ap, ◌∙◌}
use Rattle.text.specs.Text.{same}
use Rattle.lists.specs.bridge.Pairs.{pairs_in}
use Rattle.lists.proofs.Keys as K
use Rattle.lists.proofs.is_fresh.Goals as goal

pub returns-then-not-unique : goal.returns-then-not-unique
returns-then-not-unique c = K.fresh-any _ _ _ c.if-not-unique.true-raw

pub loop-e-init : goal.loop-e-init
loop-e-init c = refl

pub returns-then-is_same : goal.returns-then-is_same
unfolding pairs_in
returns-then-is_same c =
    K.found_here _ _ _ _ c.loop-e.invariant c.loop-e-test.true _ (c.is_same.ensures ∙ ap (same _) c.field_at.ensures) _ c.if-not-unique.false-raw c.if-is_same.true

pub loop-e-preserved : goal.loop-e-preserved
loop-e-preserved c =
    K.not-here _ _ _ _ c.loop-e.invariant c.loop-e-test.true _ (c.is_same.ensures ∙ ap (same _) c.field_at.ensures) c.if-is_same.false

pub returns : goal.returns
unfolding pairs_in
returns c =
    K.found_nowhere _ _ _ _ c.loop-e.invariant _ c.if-not-unique.false-raw c.loop-e-test.false
