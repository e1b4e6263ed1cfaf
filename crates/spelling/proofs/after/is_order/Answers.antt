-- `spelling::after/is_order` meets its contract. Assumes nothing.
use borrow.Author.Rules.{rules}
use Rattle.spelling.proofs.Going as G
use Rattle.words.specs.bridge.Key.{key_of}
use Rattle.spelling.proofs.after.is_order.Goals as goal

pub line_end-end-requires : goal.line_end-end-requires
unfolding key_of
line_end-end-requires c = search rules

pub returns-then-end-query : goal.returns-then-end-query
unfolding key_of
returns-then-end-query c = G.order-none _ _ _ c.line_end-end.ensures c.if-end-query.true

pub word_at-w-requires : goal.word_at-w-requires
unfolding key_of
word_at-w-requires c = (G.line_low _ _ _ c.line_end-end.ensures c.if-end-query.false, c.line_end-end.ensures.high)

pub returns : goal.returns
unfolding key_of
returns c =
    G.order-key _ _ _ c.line_end-end.ensures c.if-end-query.false _ c.word_at-w.ensures.0 _ c.word_at-w.ensures.1
