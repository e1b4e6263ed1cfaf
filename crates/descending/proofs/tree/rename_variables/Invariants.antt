-- What the loops of `tree.rename_variables` keep. Assumes nothing.
use Prim.Native.Nat.{◌≤◌, max}
use Rattle.names.specs.bridge.Names.{sizes_of}
use Rattle.descending.specs.bridge.Renamed.{Walked}
use Rattle.descending.proofs.tree.rename_variables.Given as goal

abbrev pub invariant-loop-k : goal.invariant-loop-k
invariant-loop-k l = Walked (sizes_of l.news) l.initial.spots l.j l.spots l.k × (l.k ≤ max l.j l.to)
