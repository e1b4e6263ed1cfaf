-- The call report: up to eight queries merged one after the other. docs/SPECIFICATION.md, "report". Assumes nothing.
use Rattle.std.specs.Prelude.{ℕ, ◌+◌, cond, List, [], ◌∷◌, leb, length}
use Rattle.std.proofs.Math.Option.{Option, none, some}
use Rattle.text.specs.Text.{Bytes, lines_of}
use Rattle.algebra.specs.Query.{Query}
use Rattle.algebra.specs.Reader.{Outcome as Reading, reads}
use Rattle.algebra.specs.Given.{read_given_query}
use Rattle.algebra.specs.Bounded.{layout_query}
use Rattle.answers.specs.Outcome.{Outcome, refused, written, then, or_refused, refused_unless}
use Rattle.merging.specs.Sides.{Pair, Constant}
use Rattle.merging.specs.Request.{read_joins, read_constants}
use Rattle.merging.specs.Merge.{lists, merge_trees, mergeable, over}
use Rattle.merging.specs.Push.{push_constants_outcome}
use Rattle.parted.specs.Parted.{texts}

-- ---- the texts

-- of a step
pub record StepTexts : Type 0 where
  pub query : Bytes
  pub joins : Bytes
  pub left_constants : Bytes
  pub right_constants : Bytes

abbrev pub step_texts : Bytes → Bytes → Bytes → Bytes → StepTexts
step_texts q js ks ls = record { query = q; joins = js; left_constants = ks; right_constants = ls }

abbrev pub before : StepTexts → Option (List StepTexts) → Option (List StepTexts)
before s none = none
before s (some ss) = some (s ∷ ss)

-- four a step; nothing where their number is another
unfoldable pub steps_in : List Bytes → Option (List StepTexts)
steps_in [] = some []
steps_in (q ∷ []) = none
steps_in (q ∷ js ∷ []) = none
steps_in (q ∷ js ∷ ks ∷ []) = none
steps_in (q ∷ js ∷ ks ∷ ls ∷ ts) = before (step_texts q js ks ls) (steps_in ts)

-- the lines of all texts, as they stand
unfoldable pub line_count : List Bytes → ℕ
unfolding lines_of
line_count [] = 0
line_count (t ∷ ts) = length (lines_of t) + line_count ts

-- ---- the steps

-- what the texts of a step say
pub record Step : Type 0 where
  pub query : Query
  pub joins : List Pair
  pub left_constants : List Constant
  pub right_constants : List Constant

abbrev pub step : Query → List Pair → List Constant → List Constant → Step
step q js ks ls = record { query = q; joins = js; left_constants = ks; right_constants = ls }

-- the texts of all steps, checked in the order given
unfoldable pub read_steps : List StepTexts → (List Step → Outcome) → Outcome
unfolding read_given_query read_joins read_constants
read_steps [] k = k []
read_steps (s ∷ ss) k =
    then (read_given_query s.query) λ q.
    lists s.joins s.left_constants s.right_constants λ js ks ls.
    read_steps ss λ rest.
    k (step q js ks ls ∷ rest)

-- one step: 5, then 4, 3, 10, then what comes of the merged query
unfoldable pub merge_step : Query → Step → (Query → Outcome) → Outcome
unfolding mergeable merge_trees
merge_step q s k =
    refused_unless 5 (mergeable q s.query)
    (merge_trees q.tree s.query.tree s.joins s.left_constants s.right_constants λ t. k (over q t))

-- the steps in turn: what a step makes is read by the next one as a text, and is 2 where that is past a bound
unfoldable pub merge_steps : Reading Query → List Step → Outcome
unfolding merge_step layout_query read_given_query
merge_steps left [] = then left λ q. written (layout_query q)
merge_steps left (s ∷ []) = then left λ q. merge_step q s λ r. written (layout_query r)
merge_steps left (s ∷ t ∷ ts) = then left λ q. merge_step q s λ r. merge_steps (read_given_query (layout_query r)) (t ∷ ts)

-- ---- the call

-- all texts are checked, then their lines are counted (8), then the steps are taken
unfoldable pub step_by_step : ℕ → Bytes → List StepTexts → Outcome
unfolding read_given_query read_steps merge_steps
step_by_step n first ss =
    then (read_given_query first) λ q.
    read_steps ss λ steps.
    refused_unless 8 (leb n 8192) (merge_steps (reads q) steps)

-- a thirtieth text is 2; one query comes with one constant list, which is pushed; more come with four texts a step; any other number of texts is 1
unfoldable pub report_texts : List Bytes → Outcome
unfolding push_constants_outcome steps_in step_by_step line_count
report_texts [] = refused 1
report_texts (first ∷ []) = refused 1
report_texts (first ∷ constants ∷ []) = push_constants_outcome first constants
report_texts (first ∷ q ∷ t ∷ ts) =
    cond (leb (length (first ∷ q ∷ t ∷ ts)) 29)
    (or_refused 1 (steps_in (q ∷ t ∷ ts)) λ ss. step_by_step (line_count (first ∷ q ∷ t ∷ ts)) first ss)
    (refused 2)

-- one input brings all texts, parted by lines `--`
unfoldable pub report_outcome : Bytes → Outcome
unfolding texts report_texts
report_outcome input = report_texts (texts input)

-- a program reads 29 texts of 16,384 bytes and the 28 lines between them; a longer input is 2
unfoldable pub report_input : Bytes → Outcome
unfolding report_outcome
report_input input = cond (leb (length input) 475220) (report_outcome input) (refused 2)
