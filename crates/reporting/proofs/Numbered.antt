-- No report refuses with 0. Assumes nothing.
use mathlib.Core.Bool.{Bool, true, false, cond}
use mathlib.Core.List.{List, [], ◌∷◌}
use native.Mathlib.Omega.{arith}
use lib.Dec.{leb}
use lib.ListN.{length}
use Rattle.text.specs.Text.{Bytes}
use Rattle.algebra.specs.Query.{Query}
use Rattle.algebra.specs.Reader.{Outcome as Reading, reads}
use Rattle.algebra.specs.Bounded.{layout_query}
use Rattle.algebra.specs.Given.{read_given_query}
use Rattle.answers.specs.Outcome.{Outcome, refused}
use Rattle.answers.proofs.Numbered.{Numbered, written-numbered, then-numbered, some-numbered, test-numbered}
use Rattle.merging.specs.Merge.{mergeable, over}
use Rattle.merging.proofs.Numbered.{lists-numbered, trees-numbered}
use Rattle.merging.proofs.Others.{push-numbered}
use Rattle.parted.specs.Parted.{texts}
use Rattle.reporting.specs.Report.{StepTexts, Step, step, steps_in, read_steps, merge_step, merge_steps, step_by_step, line_count, report_texts, report_outcome, report_input}

steps-numbered : (ts : List StepTexts) (k : List Step → Outcome) → ((ss : List Step) → Numbered (k ss)) → Numbered (read_steps ts k)
unfolding read_steps
steps-numbered [] k f = f []
steps-numbered (t ∷ ts) k f =
    then-numbered (read_given_query t.query) _ λ q.
    lists-numbered t.joins t.left_constants t.right_constants _ λ js ks ls.
    steps-numbered ts (λ rest. k (step q js ks ls ∷ rest)) (λ rest. f (step q js ks ls ∷ rest))

step-numbered : (q : Query) (s : Step) (k : Query → Outcome) → ((r : Query) → Numbered (k r)) → Numbered (merge_step q s k)
unfolding merge_step
step-numbered q s k f = test-numbered 5 (mergeable q s.query) _ (λ z. omega arith) (trees-numbered q.tree s.query.tree s.joins s.left_constants s.right_constants _ (λ t. f (over q t)))

turns-numbered : (left : Reading Query) (ss : List Step) → Numbered (merge_steps left ss)
unfolding merge_steps
turns-numbered left [] = then-numbered left _ λ q. written-numbered (layout_query q)
turns-numbered left (s ∷ []) = then-numbered left _ λ q. step-numbered q s _ λ r. written-numbered (layout_query r)
turns-numbered left (s ∷ t ∷ ts) = then-numbered left _ λ q. step-numbered q s _ λ r. turns-numbered (read_given_query (layout_query r)) (t ∷ ts)

short-numbered : (t : Bool) (o : Outcome) → Numbered o → Numbered (cond t o (refused 2))
unfolding Numbered
short-numbered true o h = h
short-numbered false o h = λ z. omega arith

texts-numbered : (ts : List Bytes) → Numbered (report_texts ts)
unfolding report_texts step_by_step Numbered
texts-numbered [] = λ z. omega arith
texts-numbered (first ∷ []) = λ z. omega arith
texts-numbered (first ∷ constants ∷ []) = push-numbered first constants
texts-numbered (first ∷ q ∷ t ∷ ts) =
    short-numbered (leb (length (first ∷ q ∷ t ∷ ts)) 29) _
    (some-numbered 1 (steps_in (q ∷ t ∷ ts)) _ (λ z. omega arith) λ ss. then-numbered (read_given_query first) _ λ a. steps-numbered ss _ λ steps.
    test-numbered 8 (leb (line_count (first ∷ q ∷ t ∷ ts)) 8192) _ (λ z. omega arith) (turns-numbered (reads a) steps))

pub report-numbered : (input : Bytes) → Numbered (report_outcome input)
unfolding report_outcome
report-numbered input = texts-numbered (texts input)

pub report-input-numbered : (input : Bytes) → Numbered (report_input input)
unfolding report_input
report-input-numbered input = short-numbered (leb (length input) 475220) (report_outcome input) (report-numbered input)
