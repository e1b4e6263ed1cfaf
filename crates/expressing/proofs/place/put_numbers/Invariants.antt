-- What the loops of `place.put_numbers` keep. Assumes nothing.
use mathlib.Core.Path.{◌≡◌}
use lib.ListN.{length, drop}
use lib.Seq.{sets}
use Rattle.expressing.proofs.place.put_numbers.Given as goal

abbrev pub invariant-loop-j : goal.invariant-loop-j
invariant-loop-j l = (length l.list ≡ length l.initial.list) × (sets l.list l.j (drop l.j l.numbers) ≡ sets l.initial.list 0 l.numbers)
