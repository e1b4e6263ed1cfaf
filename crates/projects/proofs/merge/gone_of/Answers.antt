-- `projects::merge/gone_of` meets its contract. Assumes nothing.
use mathlib.Core.Path.{sym}
use Rattle.projects.proofs.Known as KN
use Rattle.projects.proofs.merge.gone_of.Goals as goal

pub slice_bounds-joined_mask-end-2 : goal.slice_bounds-joined_mask-end-2
slice_bounds-joined_mask-end-2 c = sym (KN.taken-long _ _ c.requires.3)

pub joined_mask-requires : goal.joined_mask-requires
joined_mask-requires c = let p = c.requires in (p.1, p.2, p.0)

pub returns : goal.returns
returns c = c.joined_mask.ensures
