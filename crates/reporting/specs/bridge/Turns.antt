-- A report by its texts, as code goes over them: where a step's texts stand, and merges of queries in turn. Assumes nothing.
use Rattle.std.specs.Prelude.{ℕ, zero, suc, ◌+◌, List, [], ◌∷◌, get_or}
use Rattle.text.specs.Text.{Bytes}
use Rattle.answers.specs.Outcome.{Outcome, refused, written}
use Rattle.merging.specs.Merge.{merge_queries_outcome}
use Rattle.reporting.specs.Report.{StepTexts, step_texts}

-- the step whose query is the text of this number
abbrev pub step_at : List Bytes → ℕ → StepTexts
step_at ts k = step_texts (get_or ts k []) (get_or ts (k + 1) []) (get_or ts (k + 2) []) (get_or ts (k + 3) [])

-- so many steps, the first one's query at this number
unfoldable pub steps_from : List Bytes → ℕ → ℕ → List StepTexts
steps_from ts k zero = []
steps_from ts k (suc m) = step_at ts k ∷ steps_from ts (k + 4) m

-- a refusal stops; what was written goes on
abbrev pub onward : Outcome → (Bytes → Outcome) → Outcome
onward (refused n) k = refused n
onward (written b) k = k b

-- a step is a merge of queries
unfoldable pub merged_step : Bytes → StepTexts → Outcome
unfolding merge_queries_outcome
merged_step left t = merge_queries_outcome left t.query t.joins t.left_constants t.right_constants

-- merges in turn: what one writes is the next one's left query
unfoldable pub merged_in_turn : Bytes → List StepTexts → Outcome
unfolding merged_step
merged_in_turn left [] = written left
merged_in_turn left (t ∷ []) = merged_step left t
merged_in_turn left (t ∷ u ∷ us) = onward (merged_step left t) λ b. merged_in_turn b (u ∷ us)
