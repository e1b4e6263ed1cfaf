-- `lines::sorts/is_noted` meets its contract. Assumes nothing.
use Rattle.lines.proofs.SortLaw as S
use Rattle.lines.proofs.sorts.is_noted.Goals as goal

pub returns-then-sort-lt2 : goal.returns-then-sort-lt2
returns-then-sort-lt2 c = S.noted-low _ c.if-sort-lt2.true

pub returns-then-sort-eq4 : goal.returns-then-sort-eq4
returns-then-sort-eq4 c = S.noted-rows _ c.if-sort-eq4.true

pub returns-then-sort-gt6 : goal.returns-then-sort-gt6
returns-then-sort-gt6 c = S.noted-high _ c.if-sort-gt6.true

pub returns : goal.returns
returns c = S.noted-is _ c.if-sort-lt2.false c.if-sort-eq4.false c.if-sort-gt6.false
