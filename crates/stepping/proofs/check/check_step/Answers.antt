-- `stepping::check/check_step` meets its contract. Assumes nothing.
use Rattle.parted.specs.Parted.{texts}
use Rattle.stepping.proofs.Checks.{step-refused, step-listed}
use Rattle.std.proofs.lemmas.Result.{err_from_is_err_and}
use Rattle.stepping.proofs.check.check_step.Goals as goal

pub returns : goal.returns
returns c =
    let s = c.args in let q = c.check_text in step-listed (texts s.input.now) s.k _ q.result q.ensures c.text_at.ensures _ c.in_ok-check_text.was _ _ _ c.check_lists.result c.text_at-2.ensures c.text_at-3.ensures c.text_at-4.ensures c.check_lists.ensures _ c.in_ok-check_lists.was

pub returns-in_err-check_lists : goal.returns-in_err-check_lists
returns-in_err-check_lists c =
    let exit = err_from_is_err_and c.from_residual-in_err-check_lists.result c.from_residual-in_err-check_lists.ensures.1 in
    rw (exit.1, exit.2) (let s = c.args in let q = c.check_text in step-listed (texts s.input.now) s.k _ q.result q.ensures c.text_at.ensures _ c.in_ok-check_text.was _ _ _ c.check_lists.result c.text_at-2.ensures c.text_at-3.ensures c.text_at-4.ensures c.check_lists.ensures _ c.in_err-check_lists.was)

pub returns-in_err-check_text : goal.returns-in_err-check_text
returns-in_err-check_text c =
    let exit = err_from_is_err_and c.from_residual.result c.from_residual.ensures.1 in
    let s = c.args in
    let q = c.check_text in
    rw (exit.1, exit.2) (step-refused (texts s.input.now) s.k _ q.result q.ensures c.text_at.ensures _ c.in_err-check_text.was)
