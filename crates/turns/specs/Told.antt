-- What is promised of a report's rows, step by step: docs/SPECIFICATION.md, "A report's rows". Assumes nothing.
use Rattle.std.specs.Prelude.{◌≡◌, List, [], ◌∷◌}
use Rattle.std.proofs.Math.Option.{some}
use Rattle.text.specs.Text.{Bytes}
use Rattle.algebra.specs.Tree.{Triple}
use Rattle.algebra.specs.Reader.{reads}
use Rattle.algebra.specs.Given.{read_given_query}
use Rattle.algebra.specs.Texts.{read_any_tree}
use Rattle.counting.specs.Bag.{count}
use Rattle.counting.specs.Row.{Cell, same_row}
use Rattle.counting.specs.Answer.{answer}
use Rattle.merging.specs.Request.{Projection, tree, Request, request}
use Rattle.merging.specs.Merge.{merge_project_patterns}
use Rattle.merging.specs.Asked.{query_of, behind_head}
use Rattle.demand3.specs.Names.{merged_names}
use Rattle.demand3.specs.Expected.{expected_count}
use Rattle.demand3.specs.Demand3.{Supposed, Premises}
use Rattle.reporting.specs.Report.{StepTexts, Step, steps_in}
use Rattle.reporting.specs.Steps.{StepsRead}

-- one step: the merged tree is nemo's; under demand 3's premises the merged columns are those that it names, each row stands in the answer to the merged tree as often as its sum says,
-- and the merged tree meets the premises on a tree, those on names among them, so that the next step has to suppose nothing of it
pub record Told (m : Request) (merged : Projection) : Type 0 where
  pub made : tree merged ≡ merge_project_patterns m
  pub columns : Premises m → merged.columns ≡ merged_names m
  pub counts : Premises m → (g : List Triple) (row : List Cell) → count same_row row (answer (merged_names m) g (tree merged)) ≡ expected_count m g row
  pub supposed : Premises m → Supposed merged

-- its columns and counts, with nothing supposed
pub record Counts (m : Request) (merged : Projection) : Type 0 where
  pub columns : merged.columns ≡ merged_names m
  pub counts : (g : List Triple) (row : List Cell) → count same_row row (answer (merged_names m) g (tree merged)) ≡ expected_count m g row

-- the steps in turn: each merges what the one before it made, x at first and y at last
unfoldable pub InTurn : Projection → List Step → Projection → Type 0
InTurn x [] y = x ≡ y
InTurn x (s ∷ ss) y =
    (right merged : Projection) × (s.query.tree ≡ tree right)
    × Told (request x right s.joins s.left_constants s.right_constants) merged × InTurn merged ss y

-- each step's query meets the premises, if its root is project
unfoldable pub AllSupposed : List Step → Type 0
AllSupposed [] = Unit {0}
AllSupposed (s ∷ ss) = ((right : Projection) → s.query.tree ≡ tree right → Supposed right) × AllSupposed ss

-- the steps in turn, counted
unfoldable pub CountedInTurn : Projection → List Step → Projection → Type 0
CountedInTurn x [] y = x ≡ y
CountedInTurn x (s ∷ ss) y =
    (right merged : Projection) × (s.query.tree ≡ tree right)
    × Counts (request x right s.joins s.left_constants s.right_constants) merged × CountedInTurn merged ss y

-- where a report of several queries writes bytes, they are the first query's head line and the text of one tree; it comes of the first query's tree by the steps in turn,
-- and each step's rows stand in the answer to what it makes as often as demand 3 says
pub record Report (first : Bytes) (rest : List Bytes) (b : Bytes) : Type 0 where
  pub step_texts : List StepTexts
  pub steps : List Step
  pub x : Projection
  pub y : Projection
  pub kind : Bytes
  pub dataset : Bytes
  pub base : Bytes
  pub text : Bytes
  pub four_a_step : steps_in rest ≡ some step_texts
  pub first_read : read_given_query first ≡ reads (query_of kind dataset base (tree x))
  pub steps_are_read : StepsRead step_texts steps
  pub head : b ≡ behind_head kind dataset base text
  pub read : read_any_tree text ≡ reads (tree y)
  pub in_turn : InTurn x steps y
