-- What the loops of `part_texts` keep. Assumes nothing.
use mathlib.Core.Path.{◌≡◌}
use Prim.Native.Nat.{◌+◌, ◌-◌, ◌≤◌, ◌<◌}
use lib.ListN.{length, get_or}
use Rattle.parted.specs.Parted.{texts}
use Rattle.parted.specs.bridge.Code.{after, Parted}
use Rattle.parted.proofs.part_texts.Given as goal

abbrev pub invariant-loop-end : goal.invariant-loop-end
invariant-loop-end l = (length l.ends ≡ length l.initial.ends) × (l.n ≤ l.end) × (l.end ≤ length l.s) × (l.end < length l.s → l.end + 3 ≤ length l.s)
    × (length (texts l.s) ≡ l.n + (1 + length (after l.s l.end))) × Parted l.s l.ends (length l.initial.ends) l.n × (l.n < length l.initial.ends → get_or l.ends l.n 0 ≡ l.end)

abbrev pub decreases-loop-end : goal.decreases-loop-end
decreases-loop-end l = length l.s - l.end
