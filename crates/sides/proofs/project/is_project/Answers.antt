-- `sides::project/is_project` meets its contract. Assumes nothing.
use Rattle.sides.proofs.Root as R
use Rattle.sides.proofs.project.is_project.Goals as goal

pub returns-then-end-text : goal.returns-then-end-text
returns-then-end-text c = R.root_none _ _ _ c.line_end-end.ensures c.if-end-text.true

pub word_at-w-requires : goal.word_at-w-requires
word_at-w-requires c = (R.root-low _ _ _ c.line_end-end.ensures c.if-end-text.false, c.line_end-end.ensures.high)

pub returns : goal.returns
returns c =
    R.root_is _ _ _ c.line_end-end.ensures c.if-end-text.false _ _ c.word_at-w.ensures.0 c.word_at-w.ensures.1
