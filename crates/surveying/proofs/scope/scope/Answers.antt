-- `surveying::scope/scope` meets its contract. Assumes nothing.
use Rattle.surveying.proofs.Given as given
use Rattle.surveying.proofs.scope.scope.Goals as goal

pub returns-then-tree-eq0 : goal.returns-then-tree-eq0
returns-then-tree-eq0 c = search given.scope-none

pub returns : goal.returns
returns c = search given.scope-some
