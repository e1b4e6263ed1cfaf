-- What the loops of `fields.put_fields` keep. Assumes nothing.
use lib.ListN.{drop}
use Rattle.emit.specs.bridge.Writer.{Left}
use Rattle.answering.specs.bridge.Fields.{fields_of}
use Rattle.answering.proofs.fields.put_fields.Given as goal

abbrev pub invariant-loop-j : goal.invariant-loop-j
invariant-loop-j l = Left l.initial.w l.w (fields_of l.list) (fields_of (drop l.j l.list))
