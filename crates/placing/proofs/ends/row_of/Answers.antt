-- `placing::ends/row_of` meets its contract. Assumes nothing.
use mathlib.Core.Path.{ap, ◌∙◌}
use Rattle.words.specs.bridge.Code.{row_found}
use Rattle.placing.proofs.Copied as C
use Rattle.placing.proofs.ends.row_of.Goals as goal

pub returns-in_default : goal.returns-in_default
returns-in_default c =
    λ f k. let r = c.row_at in C.row-none _ r.result (ap row_found r.ensures ∙ c.any_word.ensures.row f k) c.in_default.is

pub returns : goal.returns
returns c =
    λ f k. let r = c.row_at in C.row_is _ r.result (ap row_found r.ensures ∙ c.any_word.ensures.row f k) _ c.in-Some.is
