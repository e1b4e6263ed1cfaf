-- `respelling::is_iri_at` meets its contract. Assumes nothing.
use native.Mathlib.Omega.{arith}
use Rattle.respelling.proofs.Marked as M
use Rattle.respelling.proofs.is_iri_at.Goals as goal

pub returns-then-from-to : goal.returns-then-from-to
returns-then-from-to c = (λ word keyed. M.no_field _ _ _ _ _ c.if-from-to.true, M.no_such)

pub returns-then-tree-from-ne60 : goal.returns-then-tree-from-ne60
returns-then-tree-from-ne60 c =
    (λ word keyed. M.other_byte _ _ _ _ _ c.requires.0 c.if-from-to.false c.if-tree-from-ne60.true, M.no_such)

pub returns : goal.returns
returns c =
    (λ word keyed. M.by-text _ _ _ _ _ c.requires.0 c.if-from-to.false c.if-tree-from-ne60.false _ (c.is_text.ensures word keyed), λ h. (let l = c.requires.0 in let n = c.if-from-to.false in omega arith, c.if-tree-from-ne60.false))
