-- `triples::is_fresh` meets its contract. Assumes nothing.
use mathlib.Core.Path.{refl, ap, ◌∙◌}
use Rattle.text.specs.Text.{same}
use Rattle.triples.specs.bridge.Triples.{wholes_in}
use Rattle.triples.proofs.Keys as K
use Rattle.triples.proofs.is_fresh.Goals as goal

pub loop-e-init : goal.loop-e-init
loop-e-init c = refl

pub returns-then-equal : goal.returns-then-equal
unfolding wholes_in
returns-then-equal c =
    K.found_here _ _ _ _ c.loop-e.invariant c.loop-e-test.true _ (c.equal.ensures ∙ ap (same _) c.whole_at.ensures) c.if-equal.true

pub loop-e-preserved : goal.loop-e-preserved
loop-e-preserved c =
    K.not-here _ _ _ _ c.loop-e.invariant c.loop-e-test.true _ (c.equal.ensures ∙ ap (same _) c.whole_at.ensures) c.if-equal.false

pub returns : goal.returns
unfolding wholes_in
returns c = K.found_nowhere _ _ _ _ c.loop-e.invariant c.loop-e-test.false
