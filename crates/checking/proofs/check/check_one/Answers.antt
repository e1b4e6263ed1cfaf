-- `checking::check/check_one` meets its contract. Assumes nothing.
use Rattle.std.specs.Prelude.{Ok, Err}
use Rattle.std.proofs.lemmas.Result.{err_from_is_err_and}
use Rattle.checking.proofs.WalksLaw as W
use Rattle.checking.proofs.check.check_one.Goals as goal

pub note_one-requires : goal.note_one-requires
note_one-requires c = c.requires

pub returns-in_err-noted : goal.returns-in_err-noted
returns-in_err-noted c =
    let p = err_from_is_err_and c.from_residual.result c.from_residual.ensures.1 in rw (p.1, p.2) (W.tells_as _ _ _ _ _ _ (Err _) c.in_err-noted.was c.note_one.ensures.tells)

pub returns : goal.returns
returns c = W.tells_as _ _ _ _ _ _ (Ok _) c.in_ok-noted.was c.note_one.ensures.tells
