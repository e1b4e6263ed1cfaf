-- What the loops of `find` keep. Assumes nothing.
use Prim.Native.Nat.{ℕ, ◌-◌, ◌≤◌, ◌<◌}
use mathlib.Core.Path.{◌≡◌}
use lib.ListN.{get_or}
use Rattle.text.specs.Text.{Bytes}
use Rattle.text.proofs.find.Given as goal

-- b was looked for up to i
abbrev pub Searched : Bytes → ℕ → ℕ → ℕ → ℕ → Type 0
Searched s from to b i = (from ≤ i) × (i ≤ to) × ((k : ℕ) → k < i → from ≤ k → get_or s k 0 ≡ b → ⊥)

abbrev pub invariant-loop-i : goal.invariant-loop-i
invariant-loop-i l = Searched l.s l.from l.to l.b l.i

abbrev pub decreases-loop-i : goal.decreases-loop-i
decreases-loop-i l = l.to - l.i

abbrev pub invariant-loop-i-2 : goal.invariant-loop-i-2
invariant-loop-i-2 l = Searched l.s l.from l.to l.b l.i

abbrev pub decreases-loop-i-2 : goal.decreases-loop-i-2
decreases-loop-i-2 l = l.to - l.i
