-- What the loops of `variables.variable_fields` keep. Assumes nothing.
use Prim.Native.Nat.{ℕ, ◌+◌, ◌-◌, ◌≤◌}
use mathlib.Core.Path.{◌≡◌}
use lib.ListN.{length}
use Rattle.lines.proofs.FieldsLaw as F
use Rattle.lines.specs.bridge.Steps.{left_at, rest_in, Along, InLine}
use Rattle.lines.specs.bridge.Line.{take_times}
use Rattle.lines.specs.bridge.Spotted.{mark_at}
use Rattle.lines.specs.bridge.Stored.{store, Adds, found}
use Rattle.algebra.specs.bridge.Table.{term}
use mathlib.Core.List.{List, []}
use Rattle.text.specs.Field.{variable}
use Rattle.algebra.specs.Tally.{notes}
use Rattle.names.specs.bridge.Names.{Holds, starts_of, sizes_of}
use Rattle.lines.proofs.variables.variable_fields.Given as goal

abbrev pub invariant-loop-done : goal.invariant-loop-done
invariant-loop-done l = InLine l.s l.d × Along l.initial.d l.d × (l.initial.d.at ≤ l.d.at) × (l.d.at ≤ l.initial.d.end + 1) × (rest_in (take_times l.times (term variable) (left_at l.s l.initial.d)) ≡ rest_in (take_times (l.times - l.done) (term variable) (left_at l.s l.d)))
    × ((ts : List (List ℕ)) × (take_times l.times (term variable) (left_at l.s l.initial.d) ≡ F.prefixed ts (take_times (l.times - l.done) (term variable) (left_at l.s l.d))) × ((want : List (List ℕ)) → Holds l.s (starts_of l.initial.table) (sizes_of l.initial.table) l.initial.hints l.n want → Holds l.s (starts_of l.table) (sizes_of l.table) l.hints l.m (notes ts want)))
    × (length l.spots ≡ length l.initial.spots) × Adds l.s (store (starts_of l.initial.table) (sizes_of l.initial.table) l.n l.initial.spots l.k) l.initial.d.at (store (starts_of l.table) (sizes_of l.table) l.m l.spots l.j) l.d.at (found (mark_at l.mark) [] l.s l.initial.d) (found (mark_at l.mark) [] l.s l.d)
