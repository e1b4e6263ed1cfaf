-- What the line by line check of a text has to say, by what the reader makes of it: the number, or all that is counted. Assumes nothing.
use Rattle.algebra.specs.Tally.{Tally, start}
use Rattle.algebra.specs.Reader.{Outcome, reads, refuses}
use Rattle.algebra.specs.bridge.Machine.{Check, good, bad}

abbrev pub checked : {A : Type 0} → (A → Tally → Tally) → Outcome A → Check
checked f (reads a) = good (f a start)
checked f (refuses n) = bad n
