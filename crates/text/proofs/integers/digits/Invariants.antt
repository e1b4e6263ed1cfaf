-- What the loops of `integers.digits` keep. Assumes nothing.
use Prim.Native.Nat.{◌≤◌}
use mathlib.Core.Path.{◌≡◌}
use lib.ListN.{drop}
use Rattle.text.specs.Field.{digits_of}
use Rattle.text.proofs.integers.digits.Given as goal

abbrev pub invariant-loop-d : goal.invariant-loop-d
invariant-loop-d l = (l.n ≤ 4294967295) × (digits_of 0 l.f ≡ digits_of l.n (drop l.d-index l.f))
