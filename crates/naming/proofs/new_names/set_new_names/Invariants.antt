-- What the loops of `new_names.set_new_names` keep. Assumes nothing.
use Prim.Native.Nat.{◌≤◌}
use mathlib.Core.Path.{◌≡◌}
use lib.ListN.{length}
use Rattle.names.specs.bridge.Names.{starts_of, sizes_of}
use Rattle.naming.specs.bridge.Code.{book_of, SettledTo}
use Rattle.naming.proofs.new_names.set_new_names.Given as goal

abbrev pub invariant-loop-k : goal.invariant-loop-k
invariant-loop-k l = (length l.news ≡ 1024) × (l.k ≤ l.n) × SettledTo (book_of l.text l.listed l.marks l.m) l.text (starts_of l.table) (sizes_of l.table) l.k (starts_of l.news) (sizes_of l.news) (sizes_of l.initial.news)
