-- What the loops of `is_fresh` keep. Assumes nothing.
use mathlib.Core.List.{map}
use lib.ListN.{take}
use Rattle.text.specs.Text.{part}
use Rattle.lists.specs.bridge.Pairs.{pair_at}
use Rattle.lists.proofs.Keys as K
use Rattle.lists.proofs.is_fresh.Given as goal

abbrev pub invariant-loop-e : goal.invariant-loop-e
invariant-loop-e l = K.Left (part l.from l.to l.text) (map (pair_at l.text) (take l.n l.keys)) l.e-index
