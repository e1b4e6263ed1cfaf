-- What the loops of `place.note_filters` keep. Assumes nothing.
use Rattle.names.specs.bridge.Names.{names_in}
use Rattle.expressing.proofs.Counted as C
use Rattle.expressing.proofs.place.note_filters.Given as goal

abbrev pub invariant-loop-i : goal.invariant-loop-i
invariant-loop-i l = C.Going l.found (names_in l.tree l.columns l.n) l.filters l.i l.from l.many l.size l.starts l.numbers
