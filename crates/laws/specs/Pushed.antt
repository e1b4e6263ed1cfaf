-- How often a row stands in the answer to a tree after constants were pushed into it, from the answer before: docs/SPECIFICATION.md, "Counts after a push". Assumes nothing.
use Rattle.std.specs.Prelude.{◌≡◌, Bool, cond, not, ◌&&◌, List, [], map, ℕ}
use Rattle.std.proofs.Math.Option.{some}
use Rattle.text.specs.Text.{Bytes}
use Rattle.algebra.specs.Tree.{Triple}
use Rattle.algebra.specs.Reader.{reads}
use Rattle.algebra.specs.Texts.{read_any_tree}
use Rattle.scoping.specs.Sets.{all, keep}
use Rattle.scoping.specs.Label.{prefix_v}
use Rattle.counting.specs.Bag.{once, total, count}
use Rattle.counting.specs.Row.{Cell, compatible, same_row}
use Rattle.counting.specs.Answer.{answer}
use Rattle.merging.specs.Sides.{Constant}
use Rattle.merging.specs.Request.{Projection, tree, positions}
use Rattle.merging.specs.Names.{from, is_at}
use Rattle.demand3.specs.Names.{column_positions, column_name}
use Rattle.demand3.specs.Demand3.{Supposed}
use Rattle.demand3.specs.Unmatched.{cell_at}

-- ---- columns

-- the positions of the columns without a constant
unfoldable pub free_positions : Projection → List Constant → List ℕ
unfolding keep is_at from
free_positions x ks = keep (λ i. not (is_at i (positions ks))) (column_positions x)

-- their new names: `?v` and the number from the order of numbering
unfoldable pub pushed_names : Projection → List Constant → List Bytes
unfolding free_positions column_name
pushed_names x ks = map (column_name prefix_v x []) (free_positions x ks)

-- ---- rows

-- a row cut to the remaining columns
unfoldable pub cut_to_free : Projection → List Constant → List Cell → List Cell
unfolding free_positions
cut_to_free x ks row = map (cell_at row) (free_positions x ks)

-- no cell is bound to another term than its column's constant
unfoldable pub agrees_with : List Constant → List Cell → Bool
unfolding all compatible
agrees_with ks row = all (λ k. compatible (cell_at row k.position) (some k.term)) ks

-- the sum, over each different row y of the answer before that agrees with the constants and, cut to the remaining columns, is the row, of the count of y
unfoldable pub pushed_count : Projection → List Constant → List Triple → List Cell → ℕ
unfolding total once agrees_with same_row cut_to_free count answer
pushed_count x ks g row =
    let before : List (List Cell) = answer x.columns g (tree x) in
    total (λ y. cond (agrees_with ks y && same_row row (cut_to_free x ks y)) (count same_row y before) 0) (once same_row before)

-- ---- the promise

-- the text is that of one tree, a project; under demand 3's premises on the tree before, its columns are the remaining ones under their new names,
-- and each row stands in its answer, whatever the triples, as often as the sum says
pub record PushCounted (x : Projection) (ks : List Constant) (text : Bytes) : Type 0 where
  pub pushed : Projection
  pub read : read_any_tree text ≡ reads (tree pushed)
  pub columns : Supposed x → pushed.columns ≡ pushed_names x ks
  pub counts : Supposed x → (g : List Triple) (row : List Cell) → count same_row row (answer (pushed_names x ks) g (tree pushed)) ≡ pushed_count x ks g row
