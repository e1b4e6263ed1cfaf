-- What the loops of `rename.find_targets` keep. Assumes nothing.
use Rattle.names.specs.bridge.Names.{listing, starts_of, sizes_of}
use Rattle.lists.specs.bridge.Pairs.{pairs_in}
use Rattle.renaming.proofs.Targets as T
use Rattle.renaming.proofs.rename.find_targets.Given as goal

abbrev pub invariant-loop-i : goal.invariant-loop-i
invariant-loop-i l = T.Underway (listing l.tree (starts_of l.table) (sizes_of l.table) l.n) l.n l.mapping (pairs_in l.mapping l.keys l.m) l.i (starts_of l.news) (sizes_of l.news)
