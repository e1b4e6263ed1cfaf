-- What evaluating a merged tree prints: docs/SPECIFICATION.md, "Printed rows". Assumes nothing.
use Rattle.std.specs.Prelude.{ℕ, ◌≤◌, ◌≡◌, true, List, map}
use Rattle.text.specs.Text.{Bytes}
use Rattle.algebra.specs.Tree.{Triple, Pattern}
use Rattle.algebra.specs.Reader.{reads}
use Rattle.algebra.specs.Given.{read_given_tree}
use Rattle.answers.specs.Outcome.{written}
use Rattle.counting.specs.Bag.{count}
use Rattle.counting.specs.Row.{Cell, same_row}
use Rattle.merging.specs.Request.{Request}
use Rattle.demand3.specs.Names.{merged_names}
use Rattle.demand3.specs.Expected.{expected_count}
use Rattle.evaluating.specs.Print.{printed_cell, printed}
use Rattle.evaluating.specs.Bounds.{tables_fit}
use Rattle.evaluating.specs.Evaluate.{table_space, evaluate_outcome}

-- the text is a printed table under this header, in which each row stands as often as it is to
pub record Shows (header : List Bytes) (expected : List Cell → ℕ) (text : Bytes) : Type 0 where
  pub rows : List (List Cell)
  pub shown : text ≡ printed header (map (map printed_cell) rows)
  pub counts : (row : List Cell) → count same_row row rows ≡ expected row

-- where the merged text is within the bounds and none of its tables passes its own, its evaluation is the table of demand 3's sum
pub record Evaluated (m : Request) (g : List Triple) (text triples : Bytes) : Type 0 where
  pub evaluated : (p : Pattern) (space : ℕ) → read_given_tree text ≡ reads p → tables_fit g p ≡ true → table_space ≤ space
      → (out : Bytes) × (evaluate_outcome space text triples ≡ written out) × Shows (merged_names m) (expected_count m g) out
