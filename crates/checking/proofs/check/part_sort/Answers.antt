-- `checking::check/part_sort` meets its contract. Assumes nothing.
use Rattle.checking.proofs.ReadLaw as R
use Rattle.checking.proofs.check.part_sort.Goals as goal

pub returns-then-head : goal.returns-then-head
returns-then-head c = R.part-head _ _ c.if-head.true

pub returns-then-sort-eq7 : goal.returns-then-sort-eq7
returns-then-sort-eq7 c = R.part-behind _ _ c.if-head.false c.if-sort-eq7.true

pub returns : goal.returns
returns c = R.part-tree _ _ c.if-head.false c.if-sort-eq7.false
