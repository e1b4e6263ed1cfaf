-- `columns::list/put_term` meets its contract. Assumes nothing.
use Rattle.columns.proofs.Positions as Q
use Rattle.columns.proofs.list.put_term.Goals as goal

pub returns-then-m-k : goal.returns-then-m-k
returns-then-m-k c = λ xs second at₀ k. Q.term-none _ _ _ _ _ _ _ k c.if-m-k.true

pub returns : goal.returns
returns c =
    λ xs second at₀ k. Q.term-put _ _ _ _ _ _ _ k _ _ c.if-m-k.false c.wide.ensures c.second_field.ensures c.put.ensures c.put_all.ensures
