-- What the loops of `steps.put_repeated` keep. Assumes nothing.
use Prim.Native.Nat.{◌-◌}
use mathlib.Core.List.{[]}
use Rattle.text.specs.Text.{text_of}
use Rattle.emit.specs.bridge.Writer.{Left}
use Rattle.filtering.specs.bridge.SetLines.{repeated}
use Rattle.placing.proofs.steps.put_repeated.Given as goal

abbrev pub invariant-loop-line : goal.invariant-loop-line
invariant-loop-line l = Left l.initial.w l.w (text_of (repeated l.count l.word [])) (text_of (repeated (l.count - l._line) l.word []))
