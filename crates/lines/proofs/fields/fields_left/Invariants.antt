-- What the loops of `fields.fields_left` keep. Assumes nothing.
use Prim.Native.Nat.{◌+◌, ◌≤◌}
use mathlib.Core.Path.{◌≡◌}
use lib.ListN.{length}
use Rattle.lines.specs.bridge.Steps.{left_at, InLine}
use Rattle.lines.proofs.fields.fields_left.Given as goal

abbrev pub invariant-loop-field : goal.invariant-loop-field
invariant-loop-field l = InLine l.s l.d × (l.k + length (left_at l.s l.d) ≡ length (left_at l.s l.initial.d)) × (length (left_at l.s l.initial.d) ≤ 16384)

abbrev pub decreases-loop-field : goal.decreases-loop-field
decreases-loop-field l = length (left_at l.s l.d)
