-- What the loops of `place.put_expressions` keep. Assumes nothing.
use lib.ListN.{drop}
use Rattle.text.specs.Text.{text_of}
use Rattle.emit.specs.bridge.Writer.{Left}
use Rattle.names.specs.bridge.Names.{names_in}
use Rattle.expressing.specs.bridge.Walks.{lines_at}
use Rattle.expressing.proofs.place.put_expressions.Given as goal

abbrev pub invariant-loop-j : goal.invariant-loop-j
invariant-loop-j l = Left l.initial.w l.w (text_of (lines_at (names_in l.tree l.columns l.n) l.filters l.starts)) (text_of (lines_at (names_in l.tree l.columns l.n) l.filters (drop l.j l.starts)))
