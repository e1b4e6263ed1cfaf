-- What falls, and what the loops keep. Assumes nothing.
use Prim.Native.Nat.{◌+◌, ◌-◌}
use lib.ListN.{length}
use Rattle.shapes.specs.bridge.Shape.{Going}
use Rattle.shapes.proofs.+pass_line.Given as goal

abbrev pub decreases-pass_line : goal.decreases-pass_line
decreases-pass_line l = length l.text.now + 1 - l.from.at

abbrev pub invariant-loop-child : goal.invariant-loop-child
invariant-loop-child l = Going l.text l.d l.below l.initial.r (l.below - l._child) l.r
