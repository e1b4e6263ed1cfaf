-- `descending::tree/new_mark` meets its contract. Assumes nothing.
use mathlib.Core.Path.{refl}
use Rattle.names.proofs.Columns.{column-is}
use Rattle.descending.proofs.Marks as L
use Rattle.descending.proofs.tree.new_mark.Goals as goal

pub returns-then-entry-ge1024 : goal.returns-then-entry-ge1024
returns-then-entry-ge1024 c = L.mark-none _ _ c.if-entry-ge1024.true

pub returns-then-e-eq0 : goal.returns-then-e-eq0
returns-then-e-eq0 c = L.mark-stays _ _ _ c.if-entry-ge1024.false (column-is 1 _ _ _ refl) c.if-e-eq0.true

pub returns : goal.returns
returns c = L.mark-becomes _ _ _ c.if-entry-ge1024.false (column-is 1 _ _ _ refl) c.if-e-eq0.false
