-- `placing::ends/lines_under` meets its contract. Assumes nothing.
use Rattle.placing.proofs.Copied as C
use Rattle.placing.proofs.ends.lines_under.Goals as goal

pub returns : goal.returns
returns c = (
  λ f k. C.come-is f _ c.row_of-row.result (c.row_of-row.ensures f k) _ c.lines_asked.ensures.0,
  c.lines_asked.ensures.1,
)
