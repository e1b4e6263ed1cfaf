-- What the texts of a report's steps say. Assumes nothing.
use Rattle.std.specs.Prelude.{◌≡◌, List, [], ◌∷◌}
use Rattle.algebra.specs.Reader.{reads}
use Rattle.algebra.specs.Given.{read_given_query}
use Rattle.merging.specs.Request.{read_joins, read_constants}
use Rattle.reporting.specs.Report.{StepTexts, Step}

-- a step is what its texts say
pub record StepRead (t : StepTexts) (s : Step) : Type 0 where
  pub query : read_given_query t.query ≡ reads s.query
  pub joins : read_joins t.joins ≡ reads s.joins
  pub left_constants : read_constants t.left_constants ≡ reads s.left_constants
  pub right_constants : read_constants t.right_constants ≡ reads s.right_constants

unfoldable pub StepsRead : List StepTexts → List Step → Type 0
StepsRead [] [] = Unit {0}
StepsRead [] (s ∷ ss) = ⊥
StepsRead (t ∷ ts) [] = ⊥
StepsRead (t ∷ ts) (s ∷ ss) = StepRead t s × StepsRead ts ss
