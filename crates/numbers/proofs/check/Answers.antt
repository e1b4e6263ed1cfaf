-- `numbers::check` is safe and ends: its entries are enough for every mapping. Assumes nothing.
use mathlib.Core.Path.{refl}
use Rattle.lists.proofs.Going as G
use Rattle.numbers.proofs.check.Goals as goal

pub check_mapping-requires : goal.check_mapping-requires
check_mapping-requires c = G.enough-full _ _ refl
