-- `mask::with_bit` meets its contract. Assumes nothing.
use Rattle.mask.proofs.Laws as L
use Rattle.mask.proofs.with_bit.Goals as goal

pub returns-then-set : goal.returns-then-set
returns-then-set c = L.bit-set _ _ _ _ c.if-set.true c.requires.1 c.with_one.ensures

pub returns : goal.returns
returns c = L.bit-none _ _ _ c.if-set.false
