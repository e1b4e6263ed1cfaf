-- What the loops of `hash_rest` keep. Assumes nothing.
use Prim.Native.Nat.{◌-◌, ◌≤◌, ◌<◌}
use mathlib.Core.Path.{◌≡◌}
use lib.ListN.{length, drop}
use Rattle.names.specs.bridge.Names.{hash_of}
use Rattle.names.proofs.hash_rest.Given as goal

abbrev pub invariant-loop-i : goal.invariant-loop-i
invariant-loop-i l = (l.i ≤ length l.f) × (l.h < 4294967296) × (hash_of l.hash (drop l.from l.f) ≡ hash_of l.h (drop l.i l.f))
