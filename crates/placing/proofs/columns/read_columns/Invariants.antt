-- What the loops of `columns.read_columns` keep. Assumes nothing.
use Prim.Native.Nat.{ℕ, ◌+◌, ◌-◌, ◌<◌}
use mathlib.Core.Path.{◌≡◌}
use mathlib.Core.List.{◌++◌}
use lib.ListN.{length}
use Rattle.algebra.specs.Tally.{bounds}
use Rattle.cursor.specs.declared.Cursor.{Cursor}
use Rattle.cursor.specs.bridge.Cursor.{left}
use Rattle.names.specs.bridge.Names.{names_in}
use Rattle.placing.specs.bridge.Fields.{columns_on}
use Rattle.placing.proofs.columns.read_columns.Given as goal

-- where a cursor is
abbrev pub at : Cursor → ℕ
at d = d.at

-- the columns that were noted and those to come are all
abbrev pub invariant-loop-field : goal.invariant-loop-field
invariant-loop-field l = (length l.columns ≡ bounds.columns) × (l.c.end < length l.tree) × (l.n + length (left l.tree l.c.at l.c.end) ≡ length (columns_on l.tree l.line)) × (names_in l.tree l.columns l.n ++ left l.tree l.c.at l.c.end ≡ columns_on l.tree l.line)

abbrev pub decreases-loop-field : goal.decreases-loop-field
decreases-loop-field l = l.c.end + 1 - l.c.at
