-- `joining::merge/lacks_pairs` meets its contract. Assumes nothing.
use mathlib.Core.Path.{refl}
use Rattle.merging.proofs.Combined as Combined
use Rattle.joining.proofs.merge.lacks_pairs.Goals as goal

pub returns-then-not-minus : goal.returns-then-not-minus
returns-then-not-minus c = λ js e. Combined.join-may _ c.if-not-minus.true-raw js

pub returns : goal.returns
returns c = λ js e. Combined.minus-may _ c.if-not-minus.false-raw _ _ refl js e
