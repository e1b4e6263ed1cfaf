-- A merge with its sides swapped, and rows of both merges read by each column's side and position: docs/SPECIFICATION.md, "Demand 3". Assumes nothing.
use Rattle.std.specs.Prelude.{◌≡◌, Bool, true, not, ◌&&◌, ◌||◌, List, ◌++◌, map, ℕ, length}
use Rattle.text.specs.Text.{Bytes}
use Rattle.algebra.specs.Tree.{Triple}
use Rattle.algebra.specs.Reader.{reads}
use Rattle.algebra.specs.Texts.{read_any_tree}
use Rattle.scoping.specs.Sets.{all, keep}
use Rattle.counting.specs.Bag.{count}
use Rattle.counting.specs.Row.{Cell, same_cell, same_row}
use Rattle.counting.specs.Answer.{answer}
use Rattle.merging.specs.Sides.{Pair, rights}
use Rattle.merging.specs.Request.{Projection, tree, Request, positions}
use Rattle.merging.specs.Names.{from, is_at}
use Rattle.demand3.specs.Names.{column_positions}
use Rattle.demand3.specs.Demand3.{Premises}

-- a join pair turned round
abbrev pub turned : Pair → Pair
turned j = record { left = j.right; right = j.left }

-- left and right, their constants and each pair's halves change places
abbrev pub swapped : Request → Request
swapped m = record { left = m.right; right = m.left; joins = map turned m.joins; left_constants = m.right_constants; right_constants = m.left_constants }

-- the positions of a merge's left columns: those without a constant
unfoldable pub left_shown : Request → List ℕ
unfolding keep is_at from
left_shown m = keep (λ i. not (is_at i (positions m.left_constants))) (column_positions m.left)

-- and of its right ones: those without a constant that are in no join pair
unfoldable pub right_shown : Request → List ℕ
unfolding keep is_at from
right_shown m = keep (λ i. not (is_at i (positions m.right_constants)) && not (is_at i (rights m.joins))) (column_positions m.right)

-- the merge's row with cell x i in the column from the left position i, and y i in the one from the right position i
unfoldable pub row_of : Request → (ℕ → Cell) → (ℕ → Cell) → List Cell
unfolding left_shown right_shown
row_of m x y = map x (left_shown m) ++ map y (right_shown m)

-- a join column has one cell, under whichever side it is read
unfoldable pub either_side : Request → (ℕ → Cell) → (ℕ → Cell) → Bool
unfolding all same_cell
either_side m x y = all (λ j. same_cell (x j.left) (y j.right)) m.joins

-- both or neither
abbrev pub alike : Bool → Bool → Bool
alike a b = (a && b) || (not a && not b)

-- a join pair has constants on both halves or on none
unfoldable pub both_or_neither : Request → Bool
unfolding all is_at
both_or_neither m = all (λ j. alike (is_at j.left (positions m.left_constants)) (is_at j.right (positions m.right_constants))) m.joins

-- the texts are those of one tree each, and every row as wide as the merge is read by side and position; under demand 3's premises, and where a join pair
-- has constants on both halves or on none, each row stands in both answers equally often, whatever the triples
pub record SwapCounted (m : Request) (text text' : Bytes) : Type 0 where
  pub merged : Projection
  pub merged' : Projection
  pub read : read_any_tree text ≡ reads (tree merged)
  pub read' : read_any_tree text' ≡ reads (tree merged')
  pub rows : (xs ys : List Cell) → length xs ≡ length (left_shown m) → length ys ≡ length (right_shown m) → (x y : ℕ → Cell) × (either_side m x y ≡ true) × (row_of m x y ≡ xs ++ ys)
  pub counts : Premises m → both_or_neither m ≡ true → (g : List Triple) (x y : ℕ → Cell) → either_side m x y ≡ true
      → count same_row (row_of m x y) (answer merged.columns g (tree merged)) ≡ count same_row (row_of (swapped m) y x) (answer merged'.columns g (tree merged'))
