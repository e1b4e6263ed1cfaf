-- `mask::ones_of_word` meets its contract. Assumes nothing.
use mathlib.Core.Path.{refl}
use lib.Count.{ones-le}
use Rattle.mask.proofs.Laws as L
use Rattle.mask.proofs.ones_of_word.Goals as goal

pub overflow_cast-result : goal.overflow_cast-result
overflow_cast-result c = L.ones-fit _ c.ranges.word

pub returns : goal.returns
returns c = (refl, ones-le 64 _ c.ranges.word.fits)
