-- `respelling::namespaces` meets its contract. Assumes nothing.
use Rattle.respelling.proofs.Given as given
use Rattle.respelling.proofs.namespaces.Goals as goal

pub returns-then-tree-eq0 : goal.returns-then-tree-eq0
returns-then-tree-eq0 c = search given.namespaces-none

pub returns : goal.returns
returns c = search given.namespaces-some
