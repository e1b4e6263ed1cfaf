-- `operators::line/parts_below` meets its contract. Assumes nothing.
use mathlib.Core.Path.{ap, ◌∙◌}
use Rattle.words.specs.bridge.Code.{row_found}
use Rattle.operators.proofs.Headed as H
use Rattle.operators.proofs.line.parts_below.Goals as goal

pub returns-in_default : goal.returns-in_default
returns-in_default c =
    λ f k. let r = c.row_at in H.no-parts f _ r.result (ap row_found r.ensures ∙ c.word_by.ensures.row f k) c.in_default.is

pub returns : goal.returns
returns c =
    λ f k. let r = c.row_at in H.parts_are f _ r.result (ap row_found r.ensures ∙ c.word_by.ensures.row f k) _ c.in-Some.is _ c.lines_asked.ensures.0
