-- `columns::list/position_at` meets its contract. Assumes nothing.
use Rattle.walking.proofs.Laws as W
use Rattle.columns.proofs.Positions as Q
use Rattle.columns.proofs.list.position_at.Goals as goal

pub returns-then-not-second : goal.returns-then-not-second
returns-then-not-second c = Q.first-position _ _ _ _ c.args.second c.if-not-second.true-raw c.count_at-a.ensures.0

pub returns : goal.returns
returns c =
    Q.second-position _ _ _ _ c.args.second c.if-not-second.false-raw (W.second-number _ _ _ _ _ c.count_at-a.ensures.1 c.count_at-b.ensures.0)
