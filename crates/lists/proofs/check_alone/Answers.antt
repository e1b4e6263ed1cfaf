-- `lists::check_alone` meets its contract. Assumes nothing.
use mathlib.Core.Path.{refl}
use Rattle.lists.proofs.Going as G
use Rattle.lists.proofs.check_alone.Goals as goal

pub check_pairs-requires : goal.check_pairs-requires
check_pairs-requires c = G.enough-short _ _ refl c.if-text-le128.true

pub returns-then-text-le128 : goal.returns-then-text-le128
returns-then-text-le128 c = (_, c.check_pairs.ensures)

pub check_pairs-requires-2 : goal.check_pairs-requires-2
check_pairs-requires-2 c = G.enough-full _ _ refl

pub returns : goal.returns
returns c = (_, c.check_pairs-2.ensures)
