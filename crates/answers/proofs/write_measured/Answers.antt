-- `answers::write_measured` meets its contract. Assumes nothing.
use native.Mathlib.Omega.{arith}
use Rattle.answers.proofs.Answers as A
use Rattle.answers.proofs.write_measured.Goals as goal

pub returns-then-out-size : goal.returns-then-out-size
returns-then-out-size g c = λ b w. A.too_short b _ _ _ _ (w _ _ _ c.put-size.ensures) c.if-out-size.true

pub returns : goal.returns
returns g c = λ b w.
    let f = c.well_formed in
    A.all-written b _ _ _ _ (w _ _ _ c.put-size.ensures) _ _ c.if-out-size.false (omega (arith, f)) (w _ _ _ c.put-size-2.ensures)
