-- `descending::tree/rename_variable` meets its contract. Assumes nothing.
use Rattle.descending.proofs.Marks as L
use Rattle.descending.proofs.tree.rename_variable.Goals as goal

pub returns : goal.returns
returns c = L.one-renamed _ _ _ _ _ c.requires c.wide.ensures c.new_mark-mark.ensures
