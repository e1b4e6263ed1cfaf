-- What the functions of a report promise one another: texts that are kept, checks by their numbers, a step before another. Assumes nothing.
use Rattle.std.specs.Prelude.{ℕ, ◌≤◌, ◌<◌, ◌≡◌, List, ◌∷◌, length, take, Result, Ok, Err}
use Rattle.text.specs.Text.{Bytes}
use Rattle.algebra.specs.Query.{Query}
use Rattle.algebra.specs.Reader.{malformed, over_bound, reads, refuses}
use Rattle.algebra.specs.Given.{read_given_query}
use Rattle.algebra.specs.declared.Fault.{Fault}
use Rattle.answers.specs.Outcome.{Answer, Outcome, refused, written, number, size}
use Rattle.parted.specs.bridge.Code.{Parted}
use Rattle.reporting.specs.Report.{StepTexts, Step, read_steps, step_by_step}
use Rattle.reporting.specs.Steps.{StepRead, StepsRead}
use Rattle.reporting.specs.bridge.Turns.{merged_step, merged_in_turn}
use Rattle.algebra.specs.declared.Fault.TheVariants.{Malformed, OverBound}

-- the ends of all texts of an input are kept
pub record Kept (s : Bytes) (ends : List ℕ) (n : ℕ) : Type 0 where
  pub few : n < length ends
  pub parted : Parted s ends (length ends) n

-- ---- checks

-- it is good, or why it is refused
abbrev pub Told : Type 0
Told = Result (Unit {0}) Fault

-- a query's text is read, or refused
unfoldable pub QueryChecked : Bytes → Told → Type 0
QueryChecked s (Ok n) = (q : Query) × (read_given_query s ≡ reads q)
QueryChecked s (Err Malformed) = read_given_query s ≡ refuses malformed
QueryChecked s (Err OverBound) = read_given_query s ≡ refuses over_bound

-- a step's texts are read, or what asks for it first is refused
unfoldable pub StepChecked : StepTexts → Told → Type 0
StepChecked t (Ok n) = (s : Step) × StepRead t s
StepChecked t (Err Malformed) = (ts : List StepTexts) (k : List Step → Outcome) → read_steps (t ∷ ts) k ≡ refused 1
StepChecked t (Err OverBound) = (ts : List StepTexts) (k : List Step → Outcome) → read_steps (t ∷ ts) k ≡ refused 2

-- all steps' are, or what asks for them is refused
unfoldable pub StepsChecked : List StepTexts → Told → Type 0
StepsChecked ts (Ok n) = (ss : List Step) × StepsRead ts ss
StepsChecked ts (Err Malformed) = (k : List Step → Outcome) → read_steps ts k ≡ refused 1
StepsChecked ts (Err OverBound) = (k : List Step → Outcome) → read_steps ts k ≡ refused 2

-- and the first query with them
unfoldable pub TextsChecked : Bytes → List StepTexts → Told → Type 0
TextsChecked first ts (Ok n) = ((q : Query) × (read_given_query first ≡ reads q)) × ((ss : List Step) × StepsRead ts ss)
TextsChecked first ts (Err Malformed) = (c : ℕ) → step_by_step c first ts ≡ refused 1
TextsChecked first ts (Err OverBound) = (c : ℕ) → step_by_step c first ts ≡ refused 2

-- ---- a step before another

-- what it writes stands in front of the buffer, or its refusal is that of the steps from it on
pub record Between (left : Bytes) (t : StepTexts) (after : Bytes) (a : Answer) : Type 0 where
  pub made : number a ≡ 0 → (size a ≤ length after) × (merged_step left t ≡ written (take (size a) after))
  pub stopped : (number a ≡ 0 → ⊥) → (size a ≡ 0) × ((u : StepTexts) (us : List StepTexts) → merged_in_turn left (t ∷ u ∷ us) ≡ refused (number a))
