-- What the loops of `side.join_entries` keep. Assumes nothing.
use Prim.Native.Nat.{ℕ, ◌≤◌, ◌<◌}
use mathlib.Core.Path.{◌≡◌}
use lib.ListN.{length, get_or}
use Rattle.algebra.specs.Tally.{bounds}
use Rattle.sides.proofs.Entries as N
use Rattle.sides.proofs.side.join_entries.Given as goal

abbrev pub invariant-loop-i : goal.invariant-loop-i
invariant-loop-i l = (length l.joins ≡ bounds.entries) × (l.i ≤ l.m) × ((k : ℕ) → k < l.i → get_or l.joins k 0 ≡ N.entry_at l.spots (get_or l.at k 0))
