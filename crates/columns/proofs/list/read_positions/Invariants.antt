-- What the loops of `list.read_positions` keep. Assumes nothing.
use Prim.Native.Nat.{◌-◌}
use mathlib.Core.Path.{◌≡◌}
use lib.ListN.{length}
use mathlib.Core.List.{List}
use Rattle.algebra.specs.Query.{Pair}
use Rattle.algebra.specs.Tally.{bounds}
use Rattle.columns.specs.bridge.Listed.{Listed}
use Rattle.columns.proofs.Positions.{Going}
use Rattle.columns.proofs.list.read_positions.Given as goal

abbrev pub invariant-loop-from : goal.invariant-loop-from
invariant-loop-from l = (length l.at ≡ bounds.entries) × (length l.lines ≡ bounds.entries) × ((xs : List Pair) → Listed l.list xs → Going l.list xs l.second l.c l.at l.lines l.m l.from)

abbrev pub decreases-loop-from : goal.decreases-loop-from
decreases-loop-from l = length l.list - l.from
