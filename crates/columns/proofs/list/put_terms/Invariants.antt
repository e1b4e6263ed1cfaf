-- What the loops of `list.put_terms` keep. Assumes nothing.
use Prim.Native.Nat.{◌-◌, ◌≤◌}
use mathlib.Core.List.{List}
use mathlib.Core.Bool.{false}
use Rattle.algebra.specs.Query.{Pair}
use Rattle.algebra.specs.Tally.{bounds}
use Rattle.emit.specs.bridge.Writer.{Left}
use Rattle.walking.specs.bridge.Walk.{tabbed}
use Rattle.columns.specs.bridge.Listed.{Kept, terms_from}
use Rattle.columns.proofs.list.put_terms.Given as goal

abbrev pub invariant-loop-p : goal.invariant-loop-p
invariant-loop-p l = (l.p ≤ l.columns) × ((xs : List Pair) → Kept l.list xs false l.at l.lines l.m → Left l.initial.w l.w (tabbed (terms_from xs 0 bounds.columns)) (tabbed (terms_from xs l.p (bounds.columns - l.p))))
