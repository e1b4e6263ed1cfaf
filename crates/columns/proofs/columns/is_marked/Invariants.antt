-- What the loops of `columns.is_marked` keep. Assumes nothing.
use Prim.Native.Nat.{◌/◌, ◌^◌, ◌≤◌}
use mathlib.Core.Path.{◌≡◌}
use mathlib.Core.List.{map}
use lib.ListN.{get_or, take, drop}
use Rattle.algebra.specs.Valid.{mem}
use Rattle.mask.specs.bridge.Words.{mask_value}
use Rattle.columns.specs.bridge.Columns.{new_in, columns_of, picked}
use Rattle.columns.proofs.columns.is_marked.Given as goal

abbrev pub invariant-loop-i : goal.invariant-loop-i
invariant-loop-i l = (l.i ≤ l.columns) × (mem l.name (picked 1 (mask_value l.mask / 2 ^ l.i) (map (λ x. new_in l.text l.table l.news (get_or x 1 0)) (drop l.i (take l.columns l.spots)))) ≡ mem l.name (picked 1 (mask_value l.mask) (columns_of l.text l.table l.news l.spots l.columns)))
