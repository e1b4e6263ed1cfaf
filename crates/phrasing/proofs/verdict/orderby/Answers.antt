-- `phrasing::verdict/orderby` meets its contract. Assumes nothing.
use Rattle.phrasing.proofs.Fielded as F
use Rattle.phrasing.proofs.verdict.orderby.Goals as goal

pub count_at-conditions-requires : goal.count_at-conditions-requires
count_at-conditions-requires c = c.requires.0

pub returns : goal.returns
returns c = let e = F.some_number _ _ c.count_at-conditions.ensures.0 in cc
