-- `columns::columns/goes` meets its contract. Assumes nothing.
use mathlib.Core.Path.{sym, ◌∙◌}
use Rattle.algebra.specs.Valid.{mem}
use Rattle.mask.specs.bridge.Words.{mask_value}
use Rattle.columns.specs.bridge.Columns.{new_in, columns_of, picked}
use Rattle.columns.proofs.New as N
use Rattle.columns.proofs.Picked as L
use Rattle.columns.proofs.columns.goes.Goals as goal

pub returns-then-constant : goal.returns-then-constant
returns-then-constant c =
    L.goes-constant c.args.constant (mem (new_in c.args.text.now c.args.table.now c.args.news.now c.args.entry) (picked 1 (mask_value c.args.marks) (columns_of c.args.other.now c.args.other_table.now c.args.other_news.now c.args.other_spots.now c.args.other_columns))) c.if-constant.true

pub is_marked-requires : goal.is_marked-requires
is_marked-requires c = c.requires.1

pub returns-then-e-eq0 : goal.returns-then-e-eq0
returns-then-e-eq0 c =
    L.goes-joined c.args.constant _ _ _ _ c.if-constant.false c.is_marked.ensures (N.new-stays c.args.text.now c.args.table.now c.args.news.now c.args.entry c.if-e-eq0.true _ _ _ c.wide.ensures c.wide-then-e-eq0.ensures c.piece.ensures)

pub is_marked-requires-2 : goal.is_marked-requires-2
is_marked-requires-2 c = c.requires.1

pub returns : goal.returns
returns c =
    L.goes-joined c.args.constant _ _ _ _ c.if-constant.false c.is_marked-2.ensures (N.new-named c.args.text.now c.args.table.now c.args.news.now c.args.entry c.if-e-eq0.false ∙ sym c.write_name-size.ensures.stands)
