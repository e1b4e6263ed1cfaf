-- `placing::ends/inner_end` meets its contract. Assumes nothing.
use Rattle.filtering.proofs.Read.{tree-short}
use Rattle.placing.proofs.Bare as B
use Rattle.placing.proofs.ends.inner_end.Goals as goal

pub returns-then-is_bare_down : goal.returns-then-is_bare_down
returns-then-is_bare_down c =
    let t = c.requires in B.ends-with-text _ t.0.0 t.0.1 t.1.0 _ t.1.1 _ c.is_bare_down.ensures c.if-is_bare_down.true

pub pattern_end-requires : goal.pattern_end-requires
pattern_end-requires c = let t = c.requires in (t.1.1.high, tree-short _ t.0.0 t.0.1, t.2)
