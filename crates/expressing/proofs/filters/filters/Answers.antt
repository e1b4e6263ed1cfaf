-- `expressing::filters/filters` meets its contract. Assumes nothing.
use Rattle.filtering.proofs.Given as given
use Rattle.expressing.proofs.filters.filters.Goals as goal

pub returns-then-tree-eq0 : goal.returns-then-tree-eq0
returns-then-tree-eq0 c = search given.filters-none

pub returns : goal.returns
returns c = search given.filters-some
