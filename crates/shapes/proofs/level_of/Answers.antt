-- `shapes::level_of` meets its contract. Assumes nothing.
use native.Mathlib.Omega.{arith}
use Rattle.shapes.proofs.Steps as S
use Rattle.shapes.proofs.level_of.Goals as goal

pub returns-then-is_flat : goal.returns-then-is_flat
returns-then-is_flat c =
    let w = c.word_at-w.ensures in let p = c.requires in (S.flat-level _ _ _ _ p.0 p.1 w.0 _ w.1 _ c.is_flat.ensures c.if-is_flat.true _, omega arith)

pub returns : goal.returns
returns c =
    let w = c.word_at-w.ensures in let p = c.requires in (S.next_level _ _ _ _ p.0 p.1 w.0 _ w.1 _ c.is_flat.ensures c.if-is_flat.false _, omega arith)
