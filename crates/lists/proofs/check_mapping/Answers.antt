-- `lists::check_mapping` meets its contract. Assumes nothing.
use mathlib.Core.Path.{refl}
use Rattle.algebra.specs.Query.{mapping}
use Rattle.lists.proofs.check_mapping.Goals as goal

pub returns : goal.returns
returns c = c.check_pairs.ensures mapping (record { firsts = refl; seconds = refl; parted = refl })
