-- `lists::check_joins` meets its contract. Assumes nothing.
use mathlib.Core.Path.{refl}
use Rattle.algebra.specs.Query.{joins}
use Rattle.lists.proofs.check_joins.Goals as goal

pub returns : goal.returns
returns c =
    (c.check_alone.ensures.0, c.check_alone.ensures.1 joins (record { firsts = refl; seconds = refl; parted = refl }))
