-- What the loops of `scan` keep. Assumes nothing.
use Prim.Native.Nat.{◌-◌, ◌≤◌}
use mathlib.Core.Path.{◌≡◌}
use Rattle.algebra.specs.Valid.{mem}
use mathlib.Core.Bool.{false}
use Rattle.names.specs.bridge.Names.{listing, starts_of, sizes_of}
use Rattle.names.proofs.scan.Given as goal

abbrev pub invariant-loop-i : goal.invariant-loop-i
invariant-loop-i l = (l.i ≤ l.n) × (mem l.f (listing l.s (starts_of l.table) (sizes_of l.table) l.i) ≡ false)
