-- `sides::side/find_side` meets its contract. Assumes nothing.
use borrow.Author.Rules.{rules}
use mathlib.Core.Path.{refl}
use Rattle.sides.proofs.side.find_side.Goals as goal

pub find_positions-outline-requires : goal.find_positions-outline-requires
find_positions-outline-requires c = (c.requires, search rules, search rules, search rules)

pub returns : goal.returns
returns c = let f = c.find_positions-outline.ensures in (refl, f.0, f.1, f.2)
