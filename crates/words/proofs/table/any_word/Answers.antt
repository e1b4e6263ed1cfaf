-- `words::table/any_word` meets its contract. Assumes nothing.
use Rattle.words.proofs.Worded as L
use Rattle.words.proofs.table.any_word.Goals as goal

pub returns : goal.returns
returns c = record { upper_bound = c.word_in.ensures.0; row = L.any-row _ c.requires _ _ c.word_in.ensures.1 }
