-- `respelling::put_iri` meets its contract. Assumes nothing.
use mathlib.Core.Path.{refl}
use native.Mathlib.Omega.{arith}
use Rattle.starts.proofs.Ordering as O
use Rattle.respelling.proofs.Pieces as P
use Rattle.respelling.proofs.put_iri.Goals as goal

pub returns-in_default : goal.returns-in_default
returns-in_default c =
    P.iri-waits _ _ _ _ _ _ c.requires.0 c.requires.1 c.requires.2 (O.says_none _ _ _ _ _ c.line_over.ensures c.in_default.is) _ refl refl

pub offset_bounds-keys-k : goal.offset_bounds-keys-k
offset_bounds-keys-k c =
    let t = O.says-by _ _ _ _ _ c.line_over.ensures _ c.in-Some.is in let x = t.0 in let f = c.requires.4.few in omega arith

pub bounds-keys-k : goal.bounds-keys-k
bounds-keys-k c =
    let t = O.says-by _ _ _ _ _ c.line_over.ensures _ c.in-Some.is in let x = t.0 in let f = c.requires.4.few in omega arith

pub returns : goal.returns
returns c =
    let t = O.says-by _ _ _ _ _ c.line_over.ensures _ c.in-Some.is in P.iri-put _ _ _ _ _ _ c.requires.0 c.requires.1 c.requires.2 _ t.1 t.2 c.requires.3 _ _ _ c.put_all.ensures _ c.field_at.ensures c.put_all-2.ensures _ c.field_at-2.ensures refl refl
