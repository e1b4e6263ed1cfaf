-- `mask::empty` meets its contract. Assumes nothing.
use mathlib.Core.Path.{refl}
use Rattle.mask.specs.bridge.Mask.{value_of}
use Rattle.mask.proofs.empty.Goals as goal

pub returns : goal.returns
unfolding value_of
returns c = refl
