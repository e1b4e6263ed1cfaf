-- `sides::side/name_found` meets its contract. Assumes nothing.
use borrow.Author.Rules.{rules}
use native.Mathlib.Omega.{arith}
use Rattle.sides.specs.bridge.Side.{IsNaming}
use Rattle.sides.proofs.Sides as S
use Rattle.sides.proofs.side.name_found.Goals as goal

pub count_ones-requires : goal.count_ones-requires
unfolding IsNaming
count_ones-requires c = search rules

pub returns-then-count_ones-outline : goal.returns-then-count_ones-outline
unfolding IsNaming
returns-then-count_ones-outline c =
    λ second constants x js ks d. S.repeated _ _ _ _ _ _ _ _ _ _ _ _ _ _ _ d (let e = c.count_ones.ensures.0 in omega (arith, c.if-count_ones-outline.true))

pub name_tree-requires : goal.name_tree-requires
unfolding IsNaming
name_tree-requires c =
    let p = c.requires in let d = p.2.5 in (p.0, p.1, d.is.few, d.joins_long, (p.2.2, S.outline-placed _ _ _ _ _ _ _ _ _ _ _ _ _ _ _ d, S.outline-inside _ _ _ _ _ _ _ _ _ _ _ _ _ _ _ d), p.3, p.4)

pub shape_of-spots : goal.shape_of-spots
unfolding IsNaming
shape_of-spots c = search rules

pub returns : goal.returns
unfolding IsNaming
returns c =
    let n = c.name_tree in λ second constants x js ks d. S.named _ _ _ _ _ _ _ _ _ _ _ _ _ _ _ d _ _ _ _ (let e = c.count_ones.ensures.0 in omega (arith, c.if-count_ones-outline.false)) n.ensures.renamed (n.ensures.renames x (S.outline-placed _ _ _ _ _ _ _ _ _ _ _ _ _ _ _ d) (S.outline-inside _ _ _ _ _ _ _ _ _ _ _ _ _ _ _ d))
