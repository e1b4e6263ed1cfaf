-- `binding::bindings/bindings` meets its contract. Assumes nothing.
use Rattle.filtering.proofs.Given as given
use Rattle.binding.proofs.bindings.bindings.Goals as goal

pub returns-then-tree-eq0 : goal.returns-then-tree-eq0
returns-then-tree-eq0 c = search given.bindings-none

pub returns : goal.returns
returns c = search given.bindings-some
