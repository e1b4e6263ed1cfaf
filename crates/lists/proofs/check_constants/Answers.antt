-- `lists::check_constants` meets its contract. Assumes nothing.
use mathlib.Core.Path.{refl}
use Rattle.algebra.specs.Query.{constants}
use Rattle.lists.proofs.check_constants.Goals as goal

pub returns : goal.returns
returns c =
    (c.check_alone.ensures.0, c.check_alone.ensures.1 constants (record { firsts = refl; seconds = refl; parted = refl }))
