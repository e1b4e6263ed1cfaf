-- What is known of a report of several queries that is written: its texts were read, they are few enough, and so are their lines. Assumes nothing.
use mathlib.Core.Path.{◌≡◌, refl}
use mathlib.Core.Bool.{Bool, true, false, cond}
use mathlib.Core.List.{List, ◌∷◌}
use mathlib.Core.Option.{some}
use Prim.Native.Nat.{ℕ, ◌≤◌}
use native.Mathlib.Omega.{arith}
use lib.Dec.{leb}
use lib.ListN.{length}
use borrow.Author.Tests.{leb-true}
use Rattle.text.specs.Text.{Bytes}
use Rattle.algebra.specs.Query.{Query}
use Rattle.algebra.specs.Reader.{reads}
use Rattle.algebra.specs.Given.{read_given_query}
use Rattle.answers.specs.Outcome.{Outcome, refused, written, refused_unless}
use Rattle.merging.proofs.Given.{then-written, some_written, test-written}
use Rattle.reporting.specs.Report.{StepTexts, Step, steps_in, merge_steps, step_by_step, line_count, report_texts}
use Rattle.reporting.specs.Steps.{StepsRead}
use Rattle.reporting.proofs.Steps.{steps-read}

pub record ReportRead (first : Bytes) (rest : List Bytes) (b : Bytes) : Type 0 where
  pub step_texts : List StepTexts
  pub steps : List Step
  pub query : Query
  pub few : length (first ∷ rest) ≤ 29
  pub four_a_step : steps_in rest ≡ some step_texts
  pub first_read : read_given_query first ≡ reads query
  pub steps_are_read : StepsRead step_texts steps
  pub gives : merge_steps (reads query) steps ≡ written b

few-written : (t : Bool) (o : Outcome) (b : Bytes) → cond t o (refused 2) ≡ written b → (t ≡ true) × (o ≡ written b)
few-written true o b e = (refl, e)
few-written false o b e = let z : ◌≡◌ {A = ℕ} 0 1 = cc in absurd (omega arith)

pub report-read : (first q t : Bytes) (ts : List Bytes) (b : Bytes) → report_texts (first ∷ q ∷ t ∷ ts) ≡ written b → ReportRead first (q ∷ t ∷ ts) b
unfolding report_texts step_by_step
report-read first q t ts b e =
    let n = line_count (first ∷ q ∷ t ∷ ts) in
    let f = few-written (leb (length (first ∷ q ∷ t ∷ ts)) 29) _ b e in
    let o = some_written 1 (steps_in (q ∷ t ∷ ts)) (λ ss. step_by_step n first ss) b f.1 in
    let a = then-written (read_given_query first) _ b o.2 in
    let r = steps-read o.0 (λ steps. refused_unless 8 (leb n 8192) (merge_steps (reads a.0) steps)) b a.2 in
    let m = test-written 8 (leb n 8192) (merge_steps (reads a.0) r.0) b r.2 in
    record {
      step_texts = o.0;
      steps = r.0;
      query = a.0;
      few = leb-true (length (first ∷ q ∷ t ∷ ts)) 29 f.0;
      four_a_step = o.1;
      first_read = a.1;
      steps_are_read = r.1;
      gives = m.1;
    }
