-- The names of a merge's columns: docs/SPECIFICATION.md, "Demand 3". Assumes nothing.
use Rattle.std.specs.Prelude.{ℕ, cond, not, ◌&&◌, List, [], ◌++◌, map, length, get_or}
use Rattle.text.specs.Text.{Bytes}
use Rattle.scoping.specs.Sets.{index_of, keep}
use Rattle.scoping.specs.Label.{generated, prefix_j, prefix_l, prefix_r}
use Rattle.scoping.specs.Numbering.{numbered}
use Rattle.merging.specs.Sides.{lefts, rights}
use Rattle.merging.specs.Request.{Projection, tree, Request, positions}
use Rattle.merging.specs.Names.{from, is_at, place_in}

-- the positions of a projection's columns
abbrev pub column_positions : Projection → List ℕ
column_positions x = from 0 (length x.columns)

-- the number of the column at a position, from the order of numbering
abbrev pub column_number : Projection → ℕ → ℕ
column_number x i = index_of (get_or x.columns i []) (numbered (tree x))

-- docs/SPECIFICATION.md, "Demand 3": a pair's index under `j`, else the column's number under the side's prefix
unfoldable pub column_name : ℕ → Projection → List ℕ → ℕ → Bytes
unfolding is_at place_in generated index_of numbered
column_name prefix x is i = cond (is_at i is) (generated prefix_j (place_in i is)) (generated prefix (column_number x i))

-- the new names of all columns of a side
unfoldable pub column_names : ℕ → Projection → List ℕ → List Bytes
unfolding column_name from
column_names prefix x is = map (column_name prefix x is) (column_positions x)

-- the merged columns: the left ones without a constant, then the right ones without a constant that are in no join pair
unfoldable pub merged_names : Request → List Bytes
unfolding column_name from keep is_at
merged_names m =
    map (column_name prefix_l m.left (lefts m.joins)) (keep (λ i. not (is_at i (positions m.left_constants))) (column_positions m.left))
    ++ map (column_name prefix_r m.right (rights m.joins)) (keep (λ i. not (is_at i (positions m.right_constants)) && not (is_at i (rights m.joins))) (column_positions m.right))
