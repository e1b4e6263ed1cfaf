-- What the loops of `slots.slots` keep. Assumes nothing.
use mathlib.Core.Path.{◌≡◌}
use lib.ListN.{length}
use Rattle.lines.specs.bridge.Spotted.{mark_at}
use Rattle.lines.proofs.TurnLaw as T
use Rattle.names.specs.bridge.Names.{starts_of, sizes_of}
use Rattle.lines.proofs.slots.slots.Given as goal

abbrev pub invariant-loop-code : goal.invariant-loop-code
invariant-loop-code l = T.Turn l.s l.initial.d l.initial.code (mark_at l.mark) (starts_of l.initial.table) (sizes_of l.initial.table) l.initial.hints l.n l.initial.spots l.k (starts_of l.table) (sizes_of l.table) l.hints l.m l.spots l.j l.d l.code l.i l.first l.second × (length l.spots ≡ length l.initial.spots)

abbrev pub decreases-loop-code : goal.decreases-loop-code
decreases-loop-code l = l.code
