-- `columns::columns/less` meets its contract. Assumes nothing.
use native.Mathlib.Omega.{arith}
use Rattle.columns.proofs.columns.less.Goals as goal

pub overflow_sub-result : goal.overflow_sub-result
overflow_sub-result c = let h = c.requires c.if-chosen.true in omega arith

pub returns-then-chosen : goal.returns-then-chosen
returns-then-chosen c = rw c.if-chosen.true

pub returns : goal.returns
returns c = rw c.if-chosen.false
