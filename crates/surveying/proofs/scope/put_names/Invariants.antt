-- What the loops of `scope.put_names` keep. Assumes nothing.
use Prim.Native.Nat.{◌+◌}
use lib.ListN.{drop}
use Rattle.names.specs.bridge.Names.{listing, starts_of, sizes_of}
use Rattle.emit.specs.bridge.Writer.{Left}
use Rattle.scoping.specs.bridge.Flagged.{chosen}
use Rattle.walking.specs.bridge.Walk.{tabbed}
use Rattle.surveying.proofs.scope.put_names.Given as goal

abbrev pub invariant-loop-k : goal.invariant-loop-k
invariant-loop-k l = Left l.initial.w l.w (tabbed (chosen l.base l.flags (listing l.tree (starts_of l.table) (sizes_of l.table) l.n))) (tabbed (chosen (l.base + l.k) l.flags (drop l.k (listing l.tree (starts_of l.table) (sizes_of l.table) l.n))))
