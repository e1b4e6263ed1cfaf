-- `stepping::check/check_text` meets its contract. Assumes nothing.
use Rattle.std.proofs.lemmas.Result.{err_from_is_err_and}
use Rattle.stepping.proofs.Checks.{query-said}
use Rattle.stepping.proofs.check.check_text.Goals as goal

pub returns : goal.returns
returns c = query-said _ _ _ _ _ c.check_query.result c.check_query.ensures _ c.in_ok-check_query.was

pub returns-in_err-check_query : goal.returns-in_err-check_query
returns-in_err-check_query c =
    let exit = err_from_is_err_and c.from_residual.result c.from_residual.ensures.1 in
    rw (exit.1, exit.2) (query-said _ _ _ _ _ c.check_query.result c.check_query.ensures _ c.in_err-check_query.was)
