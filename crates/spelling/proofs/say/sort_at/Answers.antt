-- `spelling::say/sort_at` meets its contract. Assumes nothing.
use Rattle.spelling.proofs.Going as G
use Rattle.spelling.proofs.say.sort_at.Goals as goal

pub returns-then-end-query : goal.returns-then-end-query
returns-then-end-query c = G.sort-none _ _ _ c.line_end-end.ensures c.if-end-query.true

pub word_at-w-requires : goal.word_at-w-requires
word_at-w-requires c = (G.line_low _ _ _ c.line_end-end.ensures c.if-end-query.false, c.line_end-end.ensures.high)

pub returns : goal.returns
returns c =
    G.sort-here _ _ _ c.line_end-end.ensures c.if-end-query.false _ c.word_at-w.ensures.0 _ (c.sort_of.ensures _ c.word_at-w.ensures.1)
