-- What the loops of `check_pairs` keep. Assumes nothing.
use Prim.Native.Nat.{ℕ, ◌-◌}
use mathlib.Core.Path.{◌≡◌}
use lib.ListN.{length}
use Rattle.cursor.specs.declared.Cursor.{Cursor}
use Rattle.lists.proofs.Going as G
use Rattle.lists.proofs.check_pairs.Given as goal

-- where a cursor is
abbrev pub at : Cursor → ℕ
at d = d.at

abbrev pub invariant-loop-c : goal.invariant-loop-c
invariant-loop-c l = G.Going l.text l.first l.second l.unique l.keys l.c.at l.n × (length l.keys ≡ length l.initial.keys)

abbrev pub decreases-loop-c : goal.decreases-loop-c
decreases-loop-c l = length l.text - l.c.at
