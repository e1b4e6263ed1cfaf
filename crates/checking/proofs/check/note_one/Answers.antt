-- `checking::check/note_one` meets its contract. Assumes nothing.
use mathlib.Core.Path.{sym, ◌∙◌}
use borrow.Author.Tests.{ltb-true, ltb-false}
use Rattle.std.proofs.lemmas.Result.{err_from_is_err_and}
use Rattle.checking.proofs.CheckLaw as K
use Rattle.checking.proofs.WalksLaw as W
use Rattle.checking.proofs.check.note_one.Goals as goal

pub returns-then-s-gt16384 : goal.returns-then-s-gt16384
returns-then-s-gt16384 c =
    record { tells = K.too_long _ _ _ _ _ _ c.if-s-gt16384.true; charts = λ h. W.charts-none _ _ _ _ _ _ _ _ _ _ }

pub read_one-requires : goal.read_one-requires
read_one-requires c = (c.requires.0, c.if-s-gt16384.false, c.requires.1, c.requires.2)

pub returns-in_err-e : goal.returns-in_err-e
returns-in_err-e c =
    let p = err_from_is_err_and c.from_residual.result c.from_residual.ensures.1 in rw (p.1, p.2) (record { tells = K.told-fault _ _ _ _ _ _ c.in_err-e.ensures.refused; charts = λ h. W.charts-none _ _ _ _ _ _ _ _ _ _ })

pub returns-then-e : goal.returns-then-e
returns-then-e c =
    let read = c.in_ok-e.ensures.read in record { tells = K.told-left _ _ _ _ _ c.in_ok-e.e.place read.went (ltb-true _ _ (sym read.over ∙ c.if-e.true)); charts = λ h. W.charts-none _ _ _ _ _ _ _ _ _ _ }

pub returns : goal.returns
returns c = let read = c.in_ok-e.ensures.read in
    let end = ltb-false _ _ (sym read.over ∙ c.if-e.false) in
    record { tells = K.told-whole _ _ _ _ _ c.in_ok-e.e.place _ read.went end; charts = λ h. W.charted _ _ _ _ _ _ _ _ _ _ _ c.args.sort c.args.level read.start c.in_ok-e.e.place read.started c.requires.1 end (read.walked h) }
