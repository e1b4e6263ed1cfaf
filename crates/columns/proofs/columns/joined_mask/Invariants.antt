-- What the loops of `columns.joined_mask` keep. Assumes nothing.
use Prim.Native.Nat.{◌+◌, ◌*◌, ◌/◌, ◌^◌, ◌≤◌, ◌<◌}
use mathlib.Core.Path.{◌≡◌}
use mathlib.Core.List.{map}
use lib.ListN.{get_or, take, drop}
use Rattle.mask.specs.bridge.Mask.{mask_of}
use Rattle.mask.specs.bridge.Words.{mask_value}
use Rattle.columns.specs.bridge.Columns.{new_in, columns_of, picked, gone_bits}
use Rattle.columns.proofs.columns.joined_mask.Given as goal

abbrev pub invariant-loop-i : goal.invariant-loop-i
invariant-loop-i l = (l.i ≤ l.columns) × (mask_value l.gone < 2 ^ l.i) × (mask_value l.gone + mask_of (gone_bits (mask_value l.mask / 2 ^ l.i) (picked 1 (mask_value l.marks) (columns_of l.other l.other_table l.other_news l.other_spots l.other_columns)) (map (λ x. new_in l.text l.table l.news (get_or x 1 0)) (drop l.i (take l.columns l.spots)))) * 2 ^ l.i ≡ mask_of (gone_bits (mask_value l.mask) (picked 1 (mask_value l.marks) (columns_of l.other l.other_table l.other_news l.other_spots l.other_columns)) (columns_of l.text l.table l.news l.spots l.columns)))
