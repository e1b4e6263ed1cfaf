-- What the loops of `spelled_at` keep. Assumes nothing.
use Prim.Native.Nat.{ℕ, ◌-◌, ◌≤◌, ◌<◌}
use mathlib.Core.Path.{◌≡◌}
use lib.ListN.{get_or}
use Rattle.words.specs.bridge.Key.{Spells}
use Rattle.words.proofs.spelled_at.Given as goal

abbrev pub invariant-loop-i : goal.invariant-loop-i
invariant-loop-i l = (l.from ≤ l.i) × (l.i ≤ l.to) × ((j : ℕ) → j < l.i → l.from ≤ j → get_or l.s j 0 ≡ 9 → ⊥) × Spells l.s l.from (record { end = l.i; key = l.k })

abbrev pub decreases-loop-i : goal.decreases-loop-i
decreases-loop-i l = l.to - l.i
