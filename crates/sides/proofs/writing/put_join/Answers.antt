-- `sides::writing/put_join` meets its contract. Assumes nothing.
use Rattle.sides.proofs.Values as Lines
use Rattle.sides.proofs.writing.put_join.Goals as goal

pub returns-then-m-ne0 : goal.returns-then-m-ne0
returns-then-m-ne0 c = λ t. record { same = c.put_all.ensures.same; puts = Lines.join-put _ _ _ c.if-m-ne0.true c.put_all.ensures.puts t }
