-- What the loops of `fields.value_fields` keep. Assumes nothing.
use Prim.Native.Nat.{◌+◌, ◌-◌, ◌≤◌}
use mathlib.Core.Path.{◌≡◌}
use Rattle.lines.specs.bridge.Steps.{left_at, rest_in, Along, InLine}
use Rattle.lines.specs.bridge.Line.{take_values}
use Rattle.lines.proofs.fields.value_fields.Given as goal

abbrev pub invariant-loop-done : goal.invariant-loop-done
invariant-loop-done l = InLine l.s l.d × Along l.initial.d l.d × (l.initial.d.at ≤ l.d.at) × (l.d.at ≤ l.initial.d.end + 1) × (rest_in (take_values l.times (left_at l.s l.initial.d)) ≡ rest_in (take_values (l.times - l.done) (left_at l.s l.d)))
