-- What the loops of `list.note_order` keep. Assumes nothing.
use Prim.Native.Nat.{◌≤◌}
use mathlib.Core.Path.{◌≡◌}
use lib.ListN.{length}
use Rattle.algebra.specs.Tally.{bounds}
use Rattle.columns.proofs.Places as P
use Rattle.columns.proofs.list.note_order.Given as goal

abbrev pub invariant-loop-k : goal.invariant-loop-k
invariant-loop-k l = (l.k ≤ l.m) × (length l.order ≡ bounds.entries) × P.Ordering l.at l.m l.k l.order

abbrev pub decreases-loop-k : goal.decreases-loop-k
decreases-loop-k l = l.k
