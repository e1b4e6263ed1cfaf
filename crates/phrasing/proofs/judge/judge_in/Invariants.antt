-- What the loops of `judge.judge_in` keep. Assumes nothing.
use Prim.Native.Nat.{◌-◌}
use mathlib.Core.Path.{◌≡◌}
use lib.ListN.{length}
use Rattle.text.specs.Text.{lines_from}
use Rattle.editions.specs.Refusals.{root}
use Rattle.spelling.specs.bridge.Judging.{judged_lines}
use Rattle.phrasing.specs.bridge.Code.{edition_at, place_at, verdict_told}
use Rattle.phrasing.proofs.judge.judge_in.Given as goal

abbrev pub invariant-loop-from : goal.invariant-loop-from
invariant-loop-from l = verdict_told (judged_lines (edition_at l.edition) 64 root (lines_from l.query 0)) ≡ verdict_told (judged_lines (edition_at l.edition) 64 (place_at l.place) (lines_from l.query l.from))

abbrev pub decreases-loop-from : goal.decreases-loop-from
decreases-loop-from l = length l.query - l.from
