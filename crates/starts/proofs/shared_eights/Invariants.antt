-- What the loops of `shared_eights` keep. Assumes nothing.
use Prim.Native.Nat.{ℕ, ◌*◌, ◌<◌}
use mathlib.Core.Path.{◌≡◌}
use lib.ListN.{get_or}
use Rattle.starts.proofs.shared_eights.Given as goal

-- both are the same in the first k eights
abbrev pub invariant-loop-k : goal.invariant-loop-k
invariant-loop-k l = (j : ℕ) → j < 8 * l.k → get_or l.a j 0 ≡ get_or l.b j 0
