-- What the loops of `is_fresh` keep. Assumes nothing.
use mathlib.Core.List.{map}
use lib.ListN.{take}
use Rattle.text.specs.Text.{part}
use Rattle.triples.specs.bridge.Triples.{whole_at}
use Rattle.triples.proofs.Keys as K
use Rattle.triples.proofs.is_fresh.Given as goal

abbrev pub invariant-loop-e : goal.invariant-loop-e
invariant-loop-e l = K.Left (part l.from l.to l.text) (map (whole_at l.text) (take l.n l.keys)) l.e-index
