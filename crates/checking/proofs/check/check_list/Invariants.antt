-- What the loops of `check.check_list` keep. Assumes nothing.
use mathlib.Core.Path.{◌≡◌}
use Prim.Native.Nat.{◌-◌}
use lib.ListN.{length}
use Rattle.std.specs.Prelude.{Ok}
use mathlib.Core.List.{[]}
use Rattle.words.specs.bridge.Code.{sort_at}
use Rattle.algebra.specs.Tally.{bounds}
use Rattle.algebra.specs.bridge.Machine.{entries, check_text}
use Rattle.names.specs.bridge.Names.{starts_of, sizes_of}
use Rattle.checking.specs.bridge.Run.{Ready, Went}
use Rattle.checking.proofs.check.check_list.Given as goal

abbrev pub invariant-loop-p : goal.invariant-loop-p
invariant-loop-p l = Ready l.s l.p × Went l.s (starts_of l.table) (sizes_of l.table) l.hints (entries l.left (sort_at l.sort) l.level) [] (check_text bounds (entries bounds.entries (sort_at l.sort) l.level) [] l.s) (Ok l.p) × (length l.no_spots ≡ 1) × (length l.no_nodes ≡ 1)

abbrev pub decreases-loop-p : goal.decreases-loop-p
decreases-loop-p l = 16385 - l.p.cursor.at
