-- `stepping::merge/merge_from` meets its contract. Assumes nothing.
use Prim.Native.Nat.{ℕ, ◌+◌, ◌-◌, ◌*◌}
use mathlib.Core.Path.{◌≡◌, sym, ap, subst, ◌∙◌}
use native.Mathlib.Omega.{arith}
use lib.ListN.{take}
use lib.Seq.{length-take-le}
use Rattle.std.proofs.lemmas.Result.{err_from_is_err_and}
use Rattle.answers.specs.Outcome.{Answered}
use Rattle.parted.specs.Parted.{texts}
use Rattle.reporting.specs.bridge.Turns.{step_at, steps_from, merged_step, merged_in_turn}
use Rattle.stepping.proofs.Turns.{turn-stops, turn-next, turn_last}
use Rattle.stepping.proofs.merge.merge_from.Goals as goal

pub loop-step-init : goal.loop-step-init
loop-step-init c = let p = c.requires in record { long = p.3; within = p.4; rest = ap (λ (m : ℕ). merged_in_turn (take c.args.start c.args.left.now) (steps_from (texts c.args.input.now) 1 m)) (omega arith) }

pub advance-requires : goal.advance-requires
advance-requires c =
    let i = c.loop-step.invariant in (c.requires.0, omega (arith, c.requires.1, c.loop-step-test.true), i.long, i.within)

pub returns-in_err-size : goal.returns-in_err-size
returns-in_err-size c =
    let exit = err_from_is_err_and c.from_residual.result c.from_residual.ensures.1 in
    let a = c.advance in
    rw (exit.1, exit.2) (turn-stops _ _ _ _ _ c.loop-step.invariant.rest (omega (arith, c.loop-step-test.true)) _ a.result a.ensures _ _ c.in_err-size.was)

pub loop-step-preserved : goal.loop-step-preserved
loop-step-preserved c =
    let a = c.advance in
    let i = c.loop-step.invariant in
    let m = c.loop-step-test.true in
    let l = a.auto.left ∙ i.long in
    let t = turn-next _ _ _ _ _ i.rest (omega (arith, m)) _ a.result a.ensures _ c.in_ok-size.was (4 * (c.loop-step.step + 1) + 1) (c.args.steps - (c.loop-step.step + 1)) (omega arith) (omega arith) in
    record { long = l; within = omega (arith, t.0, l); rest = t.1 }

pub slice_bounds-merge_step-end : goal.slice_bounds-merge_step-end
slice_bounds-merge_step-end c = let i = c.loop-step.invariant in omega (arith, i.long, i.within)

pub slice_bounds-merge_step-end-2 : goal.slice_bounds-merge_step-end-2
slice_bounds-merge_step-end-2 c =
    let i = c.loop-step.invariant in sym (length-take-le _ _ (omega (arith, i.long, i.within)))

pub merge_step-requires : goal.merge_step-requires
merge_step-requires c = (c.requires.0, omega (arith, c.requires.1, c.requires.2))

pub returns : goal.returns
returns c =
    let m = c.merge_step in
    let i = c.loop-step.invariant in
    let l : c.loop-step.step ≡ c.args.steps - 1 = omega (arith, c.loop-step.auto.step-end, c.loop-step-test.false) in
    turn_last _ _ _ _ _ i.rest (omega (arith, l)) (omega (arith, l, c.requires.2)) _ _ m.result (subst (λ (k : ℕ). Answered (merged_step (take c.loop-step.size c.loop-step.left) (step_at (texts c.args.input.now) k)) c.args.out.now m.new.out m.result) (omega (arith, l, c.requires.1, c.requires.2)) m.ensures)
