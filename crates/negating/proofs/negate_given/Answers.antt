-- `negating::negate_given` meets its contract. Assumes nothing.
use mathlib.Core.Path.{refl, sym}
use lib.Seq.{length-take-le}
use Rattle.answers.proofs.Answers as A
use Rattle.heads.proofs.Parts as P
use Rattle.negating.proofs.Negated as Neg
use Rattle.negating.proofs.negate_given.Goals as goal

pub slice_bounds-negate_of-end : goal.slice_bounds-negate_of-end
slice_bounds-negate_of-end c = sym (length-take-le _ _ c.tree_start-from.ensures.high)

pub negate_of-requires : goal.negate_of-requires
negate_of-requires c =
    let p = c.requires in (p.0, P.parts-behind _ p.0 p.1 _ (c.tree_start-from.ensures.given p.0 p.1) c.if-from-query.true _ _ refl refl)

pub returns-then-from-query : goal.returns-then-from-query
returns-then-from-query c =
    let p = c.requires in A.answered _ _ _ _ c.negate_of.result (Neg.negate-read _ p.0 p.1) (c.negate_of.ensures p.0 (P.parts-behind _ p.0 p.1 _ (c.tree_start-from.ensures.given p.0 p.1) c.if-from-query.true _ _ refl refl))

pub negate_of-requires-2 : goal.negate_of-requires-2
negate_of-requires-2 c =
    let p = c.requires in (p.0, P.parts-alone _ p.0 p.1 _ (c.tree_start-from.ensures.given p.0 p.1) c.tree_start-from.ensures.high c.if-from-query.false)

pub returns : goal.returns
returns c =
    let p = c.requires in A.answered _ _ _ _ c.negate_of-2.result (Neg.negate-read _ p.0 p.1) (c.negate_of-2.ensures p.0 (P.parts-alone _ p.0 p.1 _ (c.tree_start-from.ensures.given p.0 p.1) c.tree_start-from.ensures.high c.if-from-query.false))
