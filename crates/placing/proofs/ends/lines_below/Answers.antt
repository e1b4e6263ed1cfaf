-- `placing::ends/lines_below` meets its contract. Assumes nothing.
use mathlib.Core.Path.{sym, ap, ◌∙◌}
use Rattle.filtering.specs.bridge.Copying.{to_come}
use Rattle.walking.proofs.Laws as W
use Rattle.placing.proofs.ends.lines_below.Goals as goal

pub returns : goal.returns
returns c = let w = c.word_at-w.ensures in let p = c.requires in (
  c.lines_under.ensures.0 _ w.1 ∙ ap to_come (sym (W.line-split _ _ _ _ p.1 p.0 w.0)),
  c.lines_under.ensures.1,
)
