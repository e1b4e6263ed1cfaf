-- What the loops of `pushes.push_joins` keep. Assumes nothing.
use Prim.Native.Nat.{◌-◌, ◌≤◌}
use mathlib.Core.Path.{◌≡◌}
use mathlib.Core.List.{[]}
use Rattle.scoping.specs.bridge.Pushes.{pushes}
use Rattle.naming.specs.bridge.Code.{book_of, StoredIn, names_at}
use Rattle.names.specs.bridge.Names.{starts_of, sizes_of}
use Rattle.naming.proofs.pushes.push_joins.Given as goal

abbrev pub invariant-loop-i : goal.invariant-loop-i
invariant-loop-i l = StoredIn l.text l.listed l.hints l.marks l.d × (l.i ≤ l.m) × (l.d ≤ l.i)
    × (pushes 106 l.i (names_at l.text (starts_of l.table) (sizes_of l.table) l.joins (l.m - l.i) l.i) (book_of l.text l.listed l.marks l.d) ≡ pushes 106 0 (names_at l.text (starts_of l.table) (sizes_of l.table) l.joins l.m 0) [])
