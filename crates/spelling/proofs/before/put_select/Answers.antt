-- `spelling::before/put_select` meets its contract. Assumes nothing.
use Rattle.spelling.proofs.Fielded as F
use Rattle.spelling.proofs.before.put_select.Goals as goal

pub put_variables-c-requires : goal.put_variables-c-requires
put_variables-c-requires c = c.requires

pub returns : goal.returns
returns c =
    F.four _ _ _ _ _ _ _ _ _ c.put_all-a.ensures c.put_manner-b.ensures c.put_variables-c.ensures c.put_all.ensures
