-- `lines::sorts/opens_level` meets its contract. Assumes nothing.
use Rattle.lines.proofs.SortLaw as S
use Rattle.lines.proofs.sorts.opens_level.Goals as goal

pub returns-then-sort-lt2 : goal.returns-then-sort-lt2
returns-then-sort-lt2 c = S.opens-low _ c.if-sort-lt2.true

pub returns-then-sort-lt4 : goal.returns-then-sort-lt4
returns-then-sort-lt4 c = S.opens-tree _ c.if-sort-lt2.false c.if-sort-lt4.true

pub returns-then-sort-eq8 : goal.returns-then-sort-eq8
returns-then-sort-eq8 c = S.opens-set _ c.if-sort-eq8.true

pub returns : goal.returns
returns c = S.opens-part _ c.requires c.if-sort-lt4.false c.if-sort-eq8.false
