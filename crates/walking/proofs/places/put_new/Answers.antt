-- `walking::places/put_new` meets its contract. Assumes nothing.
use Rattle.names.proofs.Columns.{column-at}
use Rattle.walking.proofs.Spotted as L
use Rattle.walking.proofs.places.put_new.Goals as goal

pub returns-then-pool-eq0 : goal.returns-then-pool-eq0
returns-then-pool-eq0 c =
    let a = c.args in rw (column-at 0 a.news.now a.entry, column-at 1 a.news.now a.entry) (L.name-put _ _ _ c.if-pool-eq0.true c.put_name.ensures.wrote)

pub returns : goal.returns
returns c =
    let a = c.args in rw (column-at 0 a.news.now a.entry, column-at 1 a.news.now a.entry) (L.piece-put _ _ _ _ _ _ c.if-pool-eq0.false c.wide.ensures c.wide-2.ensures c.piece.ensures c.put_all.ensures)
