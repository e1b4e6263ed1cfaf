-- What the loops of `merge.merge_from` keep. Assumes nothing.
use Prim.Native.Nat.{◌+◌, ◌-◌, ◌*◌, ◌≤◌}
use mathlib.Core.Path.{◌≡◌}
use lib.ListN.{length, take}
use Rattle.parted.specs.Parted.{texts}
use Rattle.reporting.specs.bridge.Turns.{steps_from, merged_in_turn}
use Rattle.stepping.proofs.merge.merge_from.Given as goal

abbrev pub invariant-loop-step : goal.invariant-loop-step
invariant-loop-step l = record {
  long : length l.left ≡ 16384;
  within : l.size ≤ 16384;
  rest : merged_in_turn (take l.size l.left) (steps_from (texts l.input) (4 * l.step + 1) (l.steps - l.step)) ≡ merged_in_turn (take l.start l.initial.left) (steps_from (texts l.input) 1 l.steps);
}
