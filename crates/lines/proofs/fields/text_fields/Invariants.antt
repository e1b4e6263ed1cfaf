-- What the loops of `fields.text_fields` keep. Assumes nothing.
use Prim.Native.Nat.{◌+◌, ◌-◌, ◌≤◌}
use mathlib.Core.Path.{◌≡◌}
use Rattle.lines.specs.bridge.Steps.{left_at, rest_in, Along, InLine}
use Rattle.lines.specs.bridge.Line.{take_times}
use Rattle.algebra.specs.bridge.Table.{text}
use Rattle.text.specs.bridge.Code.{kind_at}
use Rattle.lines.proofs.fields.text_fields.Given as goal

abbrev pub invariant-loop-done : goal.invariant-loop-done
invariant-loop-done l = InLine l.s l.d × Along l.initial.d l.d × (l.initial.d.at ≤ l.d.at) × (l.d.at ≤ l.initial.d.end + 1) × (rest_in (take_times l.times (text (kind_at (l.kind))) (left_at l.s l.initial.d)) ≡ rest_in (take_times (l.times - l.done) (text (kind_at (l.kind))) (left_at l.s l.d)))
