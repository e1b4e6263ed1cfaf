-- What the loops of `columns.position_mask` keep. Assumes nothing.
use Prim.Native.Nat.{◌≤◌}
use mathlib.Core.Path.{◌≡◌}
use lib.ListN.{take, drop}
use Rattle.mask.specs.bridge.Mask.{mask_of}
use Rattle.mask.specs.bridge.Words.{mask_value}
use Rattle.columns.proofs.Places as P
use Rattle.columns.proofs.columns.position_mask.Given as goal

abbrev pub invariant-loop-k : goal.invariant-loop-k
invariant-loop-k l = (l.k ≤ l.m) × (mask_value l.mask ≡ mask_of (P.bits_from (drop l.k (take l.m l.at)) 0 l.c))

abbrev pub decreases-loop-k : goal.decreases-loop-k
decreases-loop-k l = l.k
