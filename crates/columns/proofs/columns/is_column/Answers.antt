-- `columns::columns/is_column` meets its contract. Assumes nothing.
use mathlib.Core.Path.{ap, sym, ◌∙◌}
use Rattle.text.specs.Text.{same}
use Rattle.columns.specs.bridge.Columns.{new_in}
use Rattle.columns.proofs.New as N
use Rattle.columns.proofs.Picked as L
use Rattle.columns.proofs.columns.is_column.Goals as goal

pub returns-then-not-marked : goal.returns-then-not-marked
returns-then-not-marked c =
    L.unmarked c.args.marked (same c.args.name.now (new_in c.args.text.now c.args.table.now c.args.news.now c.args.entry)) c.if-not-marked.true-raw

pub returns-then-e-eq0 : goal.returns-then-e-eq0
returns-then-e-eq0 c =
    L.marked c.args.marked _ _ c.if-not-marked.false-raw (c.equal.ensures ∙ ap (same _) (sym (N.new-stays c.args.text.now c.args.table.now c.args.news.now c.args.entry c.if-e-eq0.true _ _ _ c.wide.ensures c.wide-then-e-eq0.ensures c.piece.ensures)))

pub returns : goal.returns
returns c =
    L.marked c.args.marked _ _ c.if-not-marked.false-raw (c.is_generated.ensures ∙ ap (same _) (sym (N.new-named c.args.text.now c.args.table.now c.args.news.now c.args.entry c.if-e-eq0.false)))
