-- `walking::line/count_at` meets its contract. Assumes nothing.
use native.Mathlib.Omega.{arith}
use Rattle.walking.proofs.Laws as L
use Rattle.walking.proofs.line.count_at.Goals as goal

pub returns-then-end-at : goal.returns-then-end-at
returns-then-end-at c = let x = L.count_none _ _ _ c.if-end-at.true in (x.0, x.1, omega arith)

pub returns-in-Some : goal.returns-in-Some
returns-in-Some c =
    (L.count-is _ _ _ _ (omega arith) (omega arith) c.field_end-e.ensures _ c.number_of.ensures _ c.in-Some.is, L.count_next _ _ _ _ (omega arith) (omega arith) c.field_end-e.ensures, omega arith)

pub returns-in-None : goal.returns-in-None
returns-in-None c =
    (L.count-not _ _ _ _ (omega arith) (omega arith) c.field_end-e.ensures _ c.number_of.ensures c.in-None.is, L.count_next _ _ _ _ (omega arith) (omega arith) c.field_end-e.ensures, omega arith)
