-- What the loops of `pushes.push_flagged` keep. Assumes nothing.
use mathlib.Core.Path.{◌≡◌}
use Rattle.naming.specs.bridge.Code.{book_of, StoredIn}
use Rattle.naming.proofs.Numbered as N
use Rattle.names.specs.bridge.Names.{starts_of, sizes_of}
use Rattle.naming.proofs.pushes.push_flagged.Given as goal

abbrev pub invariant-loop-k : goal.invariant-loop-k
invariant-loop-k l = StoredIn l.text l.listed l.hints l.marks l.p.m × (l.p.prefix ≡ l.initial.p.prefix)
    × N.PushedTo l.text (starts_of l.table) (sizes_of l.table) l.flags l.base l.n l.initial.p.prefix l.initial.p.count (book_of l.text l.initial.listed l.initial.marks l.initial.p.m) (book_of l.text l.listed l.marks l.p.m) l.p.count l.k
