-- `expressing::place/one_more` meets its contract. Assumes nothing.
use Rattle.expressing.proofs.Counted as C
use Rattle.expressing.proofs.place.one_more.Goals as goal

pub returns-then-placed : goal.returns-then-placed
returns-then-placed c = C.more-is c.args.placed _ c.if-placed.true

pub returns : goal.returns
returns c = C.same-is c.args.placed _ c.if-placed.false
