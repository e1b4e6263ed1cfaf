-- `stepping::report_steps` meets its contract. Assumes nothing.
use Rattle.parted.specs.Parted.{texts}
use Rattle.stepping.proofs.Reports.{first_short, checked-good, checked-malformed, checked-over}
use mathlib.Core.Logic.{inl, inr}
use Rattle.std.proofs.lemmas.Result.{err_from_is_err_and}
use Rattle.algebra.proofs.Faults.{which}
use Rattle.stepping.proofs.report_steps.Goals as goal

pub merge_counted-requires : goal.merge_counted-requires
merge_counted-requires c =
    let p = c.requires in let t = c.check_texts in (p.0, p.1, p.2, first_short (texts c.args.input.now) c.args.steps _ t.result t.ensures c.in_ok-check_texts.was, p.3)

pub returns : goal.returns
returns c =
    let t = c.check_texts in let m = c.merge_counted in checked-good (texts c.args.input.now) c.args.steps _ t.result t.ensures c.in_ok-check_texts.was _ c.args.out.now m.new.out m.result c.requires.2 m.ensures

pub returns-in_err-check_texts : goal.returns-in_err-check_texts
returns-in_err-check_texts c =
    let exit = err_from_is_err_and c.from_residual.result c.from_residual.ensures.1 in
    elim (which _ _ c.in_err-check_texts.was) [
      | inl fault ↦ rw (exit.1, exit.2, fault.1) (let t = c.check_texts in checked-malformed _ _ t.result t.ensures _ _ fault.0)
      | inr fault ↦ rw (exit.1, exit.2, fault.1) (let t = c.check_texts in checked-over _ _ t.result t.ensures _ _ fault.0)
    ]
