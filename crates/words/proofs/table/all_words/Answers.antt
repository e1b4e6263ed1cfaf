-- `words::table/all_words` meets its contract: the table that is laid out is computed against the one of algebra. Assumes nothing.
use mathlib.Core.Path.{refl}
use Rattle.algebra.specs.bridge.Table.{table}
use Rattle.words.specs.bridge.Code.{slots_in, groups_in, fits_in, sorts_in, counts_in, flag_of, one_slot}
use Rattle.words.specs.bridge.Key.{key_of}
use Rattle.words.specs.bridge.Words.{words_of, first_of, told, all_tidy, tidy_sorts, all_front}
use Rattle.words.proofs.table.all_words.Goals as goal

pub returns : goal.returns
unfolding table words_of first_of told all_tidy tidy_sorts all_front key_of flag_of slots_in one_slot groups_in fits_in sorts_in counts_in
returns c = record { same = refl; tidy = refl; front = refl }
