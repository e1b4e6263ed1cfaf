-- `sides::side/name_side` meets its contract. Assumes nothing.
use Rattle.sides.proofs.Trees as T
use Rattle.sides.proofs.side.name_side.Goals as goal

pub note_places-requires : goal.note_places-requires
note_places-requires c = c.requires.1

pub standardize_variables-requires : goal.standardize_variables-requires
standardize_variables-requires c = let p = c.requires in (p.0, p.2, p.3, p.4)

pub returns : goal.returns
returns c =
    λ at p t. T.names-found _ at _ _ _ _ p t _ _ _ _ _ _ c.requires.5 c.note_places.ensures c.standardize_variables.ensures
