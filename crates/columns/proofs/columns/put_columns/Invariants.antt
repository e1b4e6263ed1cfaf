-- What the loops of `columns.put_columns` keep. Assumes nothing.
use Prim.Native.Nat.{◌-◌, ◌/◌, ◌^◌, ◌≤◌}
use mathlib.Core.Path.{◌≡◌}
use mathlib.Core.List.{map}
use lib.ListN.{length, get_or, take, drop}
use Rattle.emit.specs.bridge.Writer.{Left}
use Rattle.walking.specs.bridge.Walk.{tabbed}
use Rattle.mask.specs.bridge.Words.{mask_value}
use Rattle.columns.specs.bridge.Columns.{new_in, columns_of, picked}
use Rattle.columns.proofs.columns.put_columns.Given as goal

abbrev pub invariant-loop-left : goal.invariant-loop-left
invariant-loop-left l = (l.i ≤ l.columns) × (l.left ≡ length (picked l.bit (mask_value l.mask / 2 ^ l.i) (map (λ x. new_in l.text l.table l.news (get_or x 1 0)) (drop l.i (take l.columns l.spots)))))
    × Left l.initial.w l.w (tabbed (picked l.bit (mask_value l.mask) (columns_of l.text l.table l.news l.spots l.columns))) (tabbed (picked l.bit (mask_value l.mask / 2 ^ l.i) (map (λ x. new_in l.text l.table l.news (get_or x 1 0)) (drop l.i (take l.columns l.spots)))))

abbrev pub decreases-loop-left : goal.decreases-loop-left
decreases-loop-left l = l.columns - l.i
