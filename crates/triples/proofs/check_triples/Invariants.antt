-- What the loops of `check_triples` keep. Assumes nothing.
use Prim.Native.Nat.{ℕ, ◌-◌}
use lib.ListN.{length}
use Rattle.cursor.specs.declared.Cursor.{Cursor}
use Rattle.triples.proofs.Going as G
use Rattle.triples.proofs.check_triples.Given as goal

-- where a cursor is
abbrev pub at : Cursor → ℕ
at d = d.at

abbrev pub invariant-loop-c : goal.invariant-loop-c
invariant-loop-c l = G.Going l.text l.keys l.c.at l.n

abbrev pub decreases-loop-c : goal.decreases-loop-c
decreases-loop-c l = length l.text - l.c.at
