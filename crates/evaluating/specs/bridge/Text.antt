-- A table printed: its entries in order, each as a line. Assumes nothing.
use Rattle.std.specs.Prelude.{Bool, ◌&&◌, List, ◌∷◌, map, ℕ, leb}
use Rattle.text.specs.Text.{Bytes, text_of}
use Rattle.text.specs.Word.{bytes}
use Rattle.text.specs.Field.{decimal}
use Rattle.algebra.specs.Tree.{Triple, Pattern}
use Rattle.answers.specs.Outcome.{Outcome, written, or_refused, refused_unless}
use Rattle.merging.specs.Request.{as_project}
use Rattle.evaluating.specs.Order.{row_before, sorted}
use Rattle.evaluating.specs.Print.{row_line}
use Rattle.evaluating.specs.Evaluate.{table_space, is_evaluable}
use Rattle.evaluating.specs.bridge.Numbers.{Numbers, spelt}
use Rattle.evaluating.specs.bridge.Cells.{look}
use Rattle.evaluating.specs.bridge.Table.{Entry, Table}
use Rattle.evaluating.specs.bridge.Tables.{columns_of, numbers_of, table, tables_small}

-- a row's printed cells under these columns, where it stands under columns us
unfoldable pub shown : Numbers → List ℕ → List Bytes → List ℕ → List Bytes
unfolding look
shown κ us cs x = map (λ c. spelt κ (look (κ.name c) us x)) cs

-- which of two entries is printed first
abbrev pub entry_before : Numbers → List ℕ → List Bytes → Entry → Entry → Bool
entry_before κ us cs e f = row_before (shown κ us cs e.cells) (shown κ us cs f.cells)

unfoldable pub table_text : Numbers → List ℕ → List Bytes → Table → Bytes
unfolding text_of decimal sorted row_before shown
table_text κ us cs t = text_of ((bytes "cols" ∷ cs) ∷ map (λ e. row_line (shown κ us cs e.cells) e.count) (sorted (entry_before κ us cs) t))

-- what the call does once both texts are read: 16, 17, the printed table
unfoldable pub table_outcome : Numbers → ℕ → Pattern → List Triple → Outcome
unfolding as_project is_evaluable tables_small table table_text columns_of
table_outcome κ space p g =
    or_refused 16 (as_project p) λ x.
    refused_unless 16 (is_evaluable p)
    (refused_unless 17 (leb table_space space && tables_small κ g p) (written (table_text κ (numbers_of κ p) x.columns (table κ g p))))
