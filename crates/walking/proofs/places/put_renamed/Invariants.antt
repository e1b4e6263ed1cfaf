-- What the loops of `places.put_renamed` keep. Assumes nothing.
use Prim.Native.Nat.{◌-◌}
use mathlib.Core.Path.{◌≡◌}
use Rattle.emit.specs.bridge.Writer.{state}
use Rattle.walking.proofs.Spotted as L
use Rattle.names.specs.bridge.Names.{starts_of, sizes_of}
use Rattle.walking.proofs.places.put_renamed.Given as goal

abbrev pub invariant-loop-j : goal.invariant-loop-j
invariant-loop-j l = (l.w.out.ghost_name ≡ l.initial.w.out.ghost_name) × L.Going l.text (starts_of l.table) (sizes_of l.table) l.n l.pool (starts_of l.news) (sizes_of l.news) l.spots l.k l.from l.to l.i (state l.initial.w) l.j l.done (state l.w)

abbrev pub decreases-loop-j : goal.decreases-loop-j
decreases-loop-j l = l.k - l.j
