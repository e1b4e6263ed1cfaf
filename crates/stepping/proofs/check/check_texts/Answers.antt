-- `stepping::check/check_texts` meets its contract. Assumes nothing.
use Rattle.std.proofs.lemmas.Result.{err_from_is_err_and}
use Rattle.stepping.proofs.Checks.{texts-refused, texts-next}
use Rattle.stepping.proofs.check.check_texts.Goals as goal

pub returns-in_err-check_text : goal.returns-in_err-check_text
returns-in_err-check_text c =
    let exit = err_from_is_err_and c.from_residual.result c.from_residual.ensures.1 in
    let q = c.check_text in
    rw (exit.1, exit.2) (texts-refused _ _ c.text_at.ensures _ q.result q.ensures _ c.in_err-check_text.was)

pub returns : goal.returns
returns c =
    let q = c.check_text in texts-next _ _ c.text_at.ensures _ q.result q.ensures _ c.in_ok-check_text.was c.check_steps.result c.check_steps.ensures
