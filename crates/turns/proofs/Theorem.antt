-- A report's row counts follow demand 3 step by step, and what a step makes meets its premises. Assumes nothing.
use mathlib.Core.Path.{◌≡◌, ap, subst, ◌∙◌}
use mathlib.Core.List.{List, [], ◌∷◌}
use Rattle.text.specs.Text.{Bytes}
use Rattle.algebra.specs.Tree.{Pattern}
use Rattle.algebra.specs.Reader.{reads}
use Rattle.answers.specs.Outcome.{written}
use Rattle.merging.specs.Request.{Projection, request}
use Rattle.merging.specs.Merge.{over}
use Rattle.demand3.specs.Demand3.{Supposed, Premises}
use Rattle.reporting.specs.Report.{StepTexts, Step, merge_steps, report_texts}
use Rattle.reporting.specs.Steps.{StepsRead}
use Rattle.reporting.proofs.Steps.{some-step}
use Rattle.reporting.proofs.Read.{ReportRead, report-read}
use Rattle.turns.specs.Told.{InTurn, AllSupposed, CountedInTurn, Report}
use Rattle.turns.proofs.Stepped.{known-given, nothing_read, went}

-- the promise, for all texts
pub report-counts : (first q t : Bytes) (ts : List Bytes) (b : Bytes) → report_texts (first ∷ q ∷ t ∷ ts) ≡ written b → Report first (q ∷ t ∷ ts) b
report-counts first q t ts b e =
    let r = report-read first q t ts b e in
    let s = some-step q t ts r.step_texts r.four_a_step in
    go r r.steps r.steps_are_read r.gives s.0 s.1 s.2
  where
    go : (r : ReportRead first (q ∷ t ∷ ts) b) (steps : List Step) → StepsRead r.step_texts steps → merge_steps (reads r.query) steps ≡ written b → (s : StepTexts) (rest : List StepTexts) → r.step_texts ≡ s ∷ rest → Report first (q ∷ t ∷ ts) b
    go r [] k m s rest i = absurd (nothing_read s rest (subst (λ (z : List StepTexts). StepsRead z []) i k))
    go r (u ∷ us) k m s rest i =
        let a = r.query in
        let w = went r.step_texts u us a b (known-given first a r.first_read) k m in
        record {
          step_texts = r.step_texts;
          steps = u ∷ us;
          x = w.first;
          y = w.last;
          kind = a.kind;
          dataset = a.dataset;
          base = a.base;
          text = w.text;
          four_a_step = r.four_a_step;
          first_read = r.first_read ∙ ap (λ (p : Pattern). reads (over a p)) w.first-is;
          steps_are_read = k;
          head = w.head;
          read = w.read;
          in_turn = w.in_turn;
        }

-- where the first query and each step's meet the premises, every step counts
pub counted-in-turn : (x : Projection) (ss : List Step) (y : Projection) → Supposed x → AllSupposed ss → InTurn x ss y → CountedInTurn x ss y
unfolding InTurn AllSupposed CountedInTurn
counted-in-turn x [] y s a t = t
counted-in-turn x (u ∷ us) y s a t =
    let p : Premises (request x t.0 u.joins u.left_constants u.right_constants) = record { left = s; right = a.0 t.0 t.2 } in
    (t.0, t.1, t.2, record { columns = t.3.columns p; counts = t.3.counts p }, counted-in-turn t.1 us y (t.3.supposed p) a.1 t.4)
