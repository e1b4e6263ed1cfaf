-- `words::table/word_by` meets its contract. Assumes nothing.
use Rattle.words.proofs.Worded as L
use Rattle.words.proofs.table.word_by.Goals as goal

pub returns : goal.returns
returns c =
    let p = c.requires in let a = c.first_of.ensures.0 in let b = c.first_of-2.ensures.0 in let e = c.word_in.ensures.1 in record { upper_bound = c.word_in.ensures.0; row = L.sort-row _ p.1 _ _ _ _ _ p.0 a b e; tidy = L.sort-tidy _ p.1 _ _ _ _ _ p.0 a b e; flags = L.sort-flags _ p.1 _ _ _ _ _ p.0 a b e }
