-- `renaming::rename/rename` meets its contract. Assumes nothing.
use Rattle.renaming.proofs.Given as given
use Rattle.renaming.proofs.rename.rename.Goals as goal

pub returns-then-tree-eq0 : goal.returns-then-tree-eq0
returns-then-tree-eq0 c = search given.rename-none

pub returns : goal.returns
returns c = search given.rename-some
