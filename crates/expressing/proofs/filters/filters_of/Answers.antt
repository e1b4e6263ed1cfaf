-- `expressing::filters/filters_of` meets its contract. Assumes nothing.
use Rattle.negating.proofs.Search as S
use Rattle.expressing.proofs.filters.filters_of.Goals as goal

pub filters_not_found-requires : goal.filters_not_found-requires
filters_not_found-requires c =
    let p = c.requires in (p.0, p.1, S.says_none _ _ _ c.outermost_projection.ensures c.in_default.is, p.2)

pub filters_found-requires : goal.filters_found-requires
filters_found-requires c = let p = c.requires in (p.0, p.1, S.says_at _ _ _ _ c.outermost_projection.ensures c.in-Some.is, p.2)
