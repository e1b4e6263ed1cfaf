-- `renaming::rename/set_target` meets its contract. Assumes nothing.
use mathlib.Core.Path.{refl}
use native.Mathlib.Omega.{arith}
use Rattle.walking.proofs.Laws as L
use Rattle.renaming.proofs.Targets as T
use Rattle.renaming.proofs.rename.set_target.Goals as goal

pub returns-then-k-n : goal.returns-then-k-n
returns-then-k-n c =
    let p = c.requires in let f = c.find_name-k.ensures in let low = c.if-k-n.true in let high = p.1.high in let long = p.0 in T.settled-set _ _ _ _ _ _ c.field_at.ensures _ _ _ low (omega arith) (L.entry_here _ _ _ _ _ _ _ p.1 f low) (L.entry-index _ _ _ _ _ _ _ p.1 f low) refl p.2

pub returns-else-k-n : goal.returns-else-k-n
returns-else-k-n c =
    T.settled-unknown _ _ _ _ _ _ _ c.field_at.ensures (L.entry-none _ _ _ _ _ _ _ c.requires.1 c.find_name-k.ensures c.if-k-n.false)
