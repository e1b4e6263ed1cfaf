-- The names of a merge's two sides: the columns at positions, what standardize_variables makes of a name, and when it refuses. Assumes nothing.
use Rattle.std.specs.Prelude.{Bool, true, cond, not, ◌&&◌, List, [], ◌∷◌, ℕ, length, get_or, eqb, ltb}
use Rattle.std.proofs.Math.Option.{Option, none, some}
use Rattle.text.specs.Text.{Bytes}
use Rattle.algebra.specs.Tree.{Pattern, project}
use Rattle.scoping.specs.Sets.{all, any}
use Rattle.scoping.specs.Numbering.{numbered}
use Rattle.scoping.specs.Standardize.{standardize_variables, renamed}

-- left_join_variables, right_join_variables: the columns at positions
unfoldable pub columns_at : List Bytes → List ℕ → List Bytes
columns_at cs [] = []
columns_at cs (i ∷ is) = get_or cs i [] ∷ columns_at cs is

-- each position is one of the columns': else refusal 3
unfoldable pub inside : List Bytes → List ℕ → Bool
unfolding all
inside cs is = all (λ i. ltb i (length cs)) is

-- no position twice
unfoldable pub different_positions : List ℕ → Bool
unfolding any
different_positions [] = true
different_positions (i ∷ is) = not (any (eqb i) is) && different_positions is

-- a name of a tree in the merge: mapping.get(variable).unwrap_or(variable), with the map for the side's prefix and join variables
unfoldable pub side_name : ℕ → List Bytes → Pattern → List ℕ → Bytes → Bytes
unfolding renamed standardize_variables numbered columns_at
side_name prefix cs p is w = renamed (standardize_variables prefix (numbered (project cs p)) (columns_at cs is)) w

-- the naming step of a side: refused (10) where its join list has a position twice, else the new name of each name
unfoldable pub name_side : ℕ → List Bytes → Pattern → List ℕ → Option (Bytes → Bytes)
unfolding different_positions side_name
name_side prefix cs p is = cond (different_positions is) (some (side_name prefix cs p is)) none
