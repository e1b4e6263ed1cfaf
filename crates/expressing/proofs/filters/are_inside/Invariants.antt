-- What the loops of `filters.are_inside` keep. Assumes nothing.
use Prim.Native.Nat.{ℕ, ◌-◌}
use mathlib.Core.Path.{◌≡◌}
use lib.ListN.{length}
use Rattle.text.specs.Text.{lines_from}
use Rattle.scoping.specs.Sets.{all}
use Rattle.cursor.specs.declared.Cursor.{Cursor}
use Rattle.expressing.specs.bridge.Filtered.{ref_below}
use Rattle.expressing.proofs.filters.are_inside.Given as goal

-- where a cursor is
abbrev pub at : Cursor → ℕ
at d = d.at

abbrev pub invariant-loop-c : goal.invariant-loop-c
invariant-loop-c l = all (ref_below l.width) (lines_from l.filters l.c.at) ≡ all (ref_below l.width) (lines_from l.filters 0)

abbrev pub decreases-loop-c : goal.decreases-loop-c
decreases-loop-c l = length l.filters - l.c.at
