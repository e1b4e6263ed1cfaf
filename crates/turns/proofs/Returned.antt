-- A report's rows from what a caller sees: one that returned 0 has in its first `size` bytes a text that comes of its steps in turn. Assumes nothing.
-- The premise `Reported` is what the call's contract says, of the number that is returned and of `size`.
use Prim.Native.Nat.{ℕ, ◌≤◌}
use mathlib.Core.Path.{◌≡◌, sym, ap, subst, ◌∙◌}
use mathlib.Core.List.{List, ◌∷◌}
use lib.ListN.{length, take}
use Rattle.text.specs.Text.{Bytes}
use Rattle.parted.specs.Parted.{texts}
use Rattle.answers.specs.Outcome.{Reported}
use Rattle.answers.proofs.Numbered.{returned}
use Rattle.reporting.specs.Report.{report_texts, report_outcome}
use Rattle.reporting.proofs.Numbered.{report-numbered}
use Rattle.turns.specs.Told.{Report}
use Rattle.turns.proofs.Theorem.{report-counts}

pub report-returned : (input before after : Bytes) (number size : ℕ) → Reported (report_outcome input) before after number size → number ≡ 0
    → (first q t : Bytes) (ts : List Bytes) → texts input ≡ first ∷ q ∷ t ∷ ts → (size ≤ length before) × Report first (q ∷ t ∷ ts) (take size after)
unfolding report_outcome
report-returned input before after number size r e first q t ts is =
    let w = returned _ before after number size (report-numbered input) r e in
    (w.room, subst (Report first (q ∷ t ∷ ts)) (sym w.front) (report-counts first q t ts w.text (sym (ap report_texts is) ∙ w.is)))
