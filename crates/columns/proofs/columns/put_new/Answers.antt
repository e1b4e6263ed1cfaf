-- `columns::columns/put_new` meets its contract. Assumes nothing.
use mathlib.Core.Path.{sym}
use Rattle.emit.proofs.Writing.{wrote-as}
use Rattle.columns.proofs.New as N
use Rattle.columns.proofs.columns.put_new.Goals as goal

pub returns-then-e-eq0 : goal.returns-then-e-eq0
returns-then-e-eq0 c =
    wrote-as (sym (N.new-stays c.args.text.now c.args.table.now c.args.news.now c.args.entry c.if-e-eq0.true _ _ _ c.wide.ensures c.wide-then-e-eq0.ensures c.piece.ensures)) c.put_all.ensures

pub returns : goal.returns
returns c =
    wrote-as (sym (N.new-named c.args.text.now c.args.table.now c.args.news.now c.args.entry c.if-e-eq0.false)) c.put_name.ensures.wrote
