-- `sides::side/name_tree` meets its contract. Assumes nothing.
use borrow.Author.Rules.{rules}
use native.Mathlib.Nat.{le_refl}
use Rattle.sides.proofs.Trees as T
use Rattle.sides.proofs.Sides as S
use Rattle.sides.proofs.side.name_tree.Goals as goal

pub join_entries-requires : goal.join_entries-requires
join_entries-requires c = let p = c.requires in (p.2, search rules, S.spot-low _ _ _ _ _ _ _ _ _ p.4.1 _ _ p.2 p.3 p.4.2)

pub name_side-requires : goal.name_side-requires
name_side-requires c =
    let p = c.requires in let j = c.join_entries in (T.tree-high _ _ _ _ _ _ _ p.4.1.stands, T.tree-low _ _ _ _ _ _ _ p.4.1.stands, p.2, S.join-low _ _ _ _ _ _ _ _ _ p.4.1 _ _ p.2 p.3 p.4.2 j.new.joins j.ensures.1, p.0, p.1)

pub rename_tree-requires : goal.rename_tree-requires
rename_tree-requires c = let p = c.requires in (p.5, le_refl _, p.6)

pub returns : goal.returns
returns c =
    let p = c.requires in let j = c.join_entries in record { renames = λ x t i. S.new-names _ _ _ _ _ _ _ _ x t _ _ p.2 p.3 i j.new.joins j.ensures.1 _ _ _ c.name_side.ensures; renamed = c.rename_tree.ensures }
