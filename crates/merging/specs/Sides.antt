-- The two sides of a merge, and the tree that they are merged into: nemo's merge_project_patterns (queries.rs) on trees. Assumes nothing.
use Rattle.std.specs.Prelude.{cond, not, List, [], ◌∷◌, ◌++◌, map, ℕ, suc, get_or, eqb}
use Rattle.text.specs.Text.{Bytes, same}
use Rattle.algebra.specs.Tree.{Pattern, join, values, project}
use Rattle.algebra.specs.Valid.{mem}
use Rattle.scoping.specs.Rename.{rename_in_graph_pattern}
use Rattle.scoping.specs.Premises.{side_name}
use Rattle.scoping.specs.Sets.{any, keep}

-- a line of a join list: two positions (`Pair` of crates/algebra is a line of any list, two fields)
pub record Pair : Type 0 where
  pub left : ℕ
  pub right : ℕ

-- a line of a constant list
pub record Constant : Type 0 where
  pub position : ℕ
  pub term : Bytes

-- a join list's positions on the left, and on the right
abbrev pub lefts : List Pair → List ℕ
lefts js = map (λ j. j.left) js

abbrev pub rights : List Pair → List ℕ
rights js = map (λ j. j.right) js

-- one of the two: a project's columns and inner pattern, the new name of each name, the constants
pub record Side : Type 0 where
  pub columns : List Bytes
  pub inner : Pattern
  pub name : Bytes → Bytes
  pub constants : List Constant

-- a side with these new names
abbrev pub side_with : List Bytes → Pattern → List Constant → (Bytes → Bytes) → Side
side_with cs p ks f = record { columns = cs; inner = p; name = f; constants = ks }

-- a side with the names that standardize_variables gives it, for its prefix and the columns at its positions
abbrev pub standardized : ℕ → List Bytes → Pattern → List ℕ → List Constant → Side
standardized prefix cs p is ks = side_with cs p ks (side_name prefix cs p is)

-- the column at a position; no name past the last
abbrev pub column_at : List Bytes → ℕ → Bytes
column_at cs i = get_or cs i []

-- the columns that carry the constants, and their terms
abbrev pub constant_columns : List Bytes → List Constant → List Bytes
constant_columns cs ks = map (λ k. column_at cs k.position) ks

abbrev pub constant_terms : List Constant → List Bytes
constant_terms ks = map (λ k. k.term) ks

-- bind_constants: with no constants no join
unfoldable pub bind_constants : Pattern → List Bytes → List Constant → Pattern
bind_constants p cs [] = p
bind_constants p cs (k ∷ ks) = join p (values (constant_columns cs (k ∷ ks)) (constant_terms (k ∷ ks) ∷ []))

-- the columns from position i on that carry no constant
unfoldable pub without_constants : ℕ → List Bytes → List Constant → List Bytes
unfolding any
without_constants i [] ks = []
without_constants i (c ∷ cs) ks = cond (any (λ k. eqb k.position i) ks) (without_constants (suc i) cs ks) (c ∷ without_constants (suc i) cs ks)

-- the renamed columns
abbrev pub renamed_columns : Side → List Bytes
renamed_columns s = map s.name s.columns

-- rename_variables_in_project_pattern, its pattern: renamed, and the constants bound
unfoldable pub renamed_pattern : Side → Pattern
unfolding bind_constants rename_in_graph_pattern
renamed_pattern s = bind_constants (rename_in_graph_pattern s.name s.inner) (renamed_columns s) s.constants

-- rename_variables_in_project_pattern, its columns: renamed, less those that carry a constant
unfoldable pub free_columns : Side → List Bytes
unfolding without_constants
free_columns s = without_constants 0 (renamed_columns s) s.constants

-- left_join_variables and right_join_variables: the columns at the join positions
abbrev pub left_join_variables : Side → List Pair → List Bytes
left_join_variables l js = map (λ j. column_at l.columns j.left) js

-- the left columns, then the right ones that are no join variable
unfoldable pub merged_columns : Side → Side → List Pair → List Bytes
unfolding free_columns keep mem same
merged_columns l r js = free_columns l ++ keep (λ c. not (mem c (map l.name (left_join_variables l js)))) (free_columns r)

-- the merged tree of two sides
unfoldable pub merged : Side → Side → List Pair → Pattern
unfolding merged_columns renamed_pattern
merged l r js = project (merged_columns l r js) (join (renamed_pattern l) (renamed_pattern r))
