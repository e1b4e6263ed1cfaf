-- What without promises of rows: those of the left answer that no row of the right answer matches, each as often as on the left. docs/SPECIFICATION.md, "Without". Assumes nothing.
use Rattle.std.specs.Prelude.{◌≡◌, Bool, false, cond, ◌&&◌, List, ℕ, get_or}
use Rattle.std.proofs.Math.Option.{none, some}
use Rattle.text.specs.Text.{Bytes, same}
use Rattle.algebra.specs.Tree.{Triple}
use Rattle.algebra.specs.Reader.{reads}
use Rattle.algebra.specs.Texts.{read_any_tree}
use Rattle.scoping.specs.Sets.{all, any}
use Rattle.scoping.specs.Label.{prefix_l}
use Rattle.counting.specs.Bag.{count}
use Rattle.counting.specs.Row.{Cell, compatible, same_row}
use Rattle.counting.specs.Answer.{answer}
use Rattle.merging.specs.Sides.{Pair, lefts}
use Rattle.merging.specs.Request.{Projection, tree, Request}
use Rattle.demand3.specs.Names.{column_names}
use Rattle.demand3.specs.Demand3.{Premises}

-- ---- which rows match

-- a row's cell at a position
abbrev pub cell_at : List Cell → ℕ → Cell
cell_at x i = get_or x i none

-- both cells are bound, to one term
unfoldable pub agrees_on : Cell → Cell → Bool
unfolding same
agrees_on none b = false
agrees_on (some a) none = false
agrees_on (some a) (some b) = same a b

-- a left row x and a right row y: the cells of some join pair agree, and those of none are bound to two terms
unfoldable pub matches : List Pair → List Cell → List Cell → Bool
unfolding any all agrees_on compatible
matches js x y =
    any (λ j. agrees_on (cell_at x j.left) (cell_at y j.right)) js
    && all (λ j. compatible (cell_at x j.left) (cell_at y j.right)) js

-- ---- how often a row has to stand there

-- never if a right row matches it, else as often as on the left; a row that is none of the left ones stands there 0 times anyway
unfoldable pub unmatched_count : Request → List Triple → List Cell → ℕ
unfolding any matches answer count same_row
unmatched_count m g row =
    cond (any (matches m.joins row) (answer m.right.columns g (tree m.right))) 0
    (count same_row row (answer m.left.columns g (tree m.left)))

-- the text is that of one tree, a project; under demand 3's premises its columns are the left ones under the merge's names,
-- and each row stands in its answer, whatever the triples, as often as it has to
pub record Unmatched (m : Request) (text : Bytes) : Type 0 where
  pub remaining : Projection
  pub read : read_any_tree text ≡ reads (tree remaining)
  pub columns : Premises m → remaining.columns ≡ column_names prefix_l m.left (lefts m.joins)
  pub counts : Premises m → (g : List Triple) (row : List Cell) → count same_row row (answer remaining.columns g (tree remaining)) ≡ unmatched_count m g row
