-- An answer as text: docs/SPECIFICATION.md, "Printed rows". Assumes nothing.
use Rattle.std.specs.Prelude.{ℕ, Bool, List, [], ◌∷◌, ◌++◌, map}
use Rattle.std.proofs.Math.Option.{none, some}
use Rattle.text.specs.Text.{Bytes, Line, same, text_of}
use Rattle.text.specs.Word.{bytes}
use Rattle.text.specs.Field.{decimal}
use Rattle.counting.specs.Bag.{once, count}
use Rattle.counting.specs.Row.{Cell}
use Rattle.evaluating.specs.Order.{alike, row_before, sorted}

-- a term, or `-` for unbound; no term is `-`
abbrev pub printed_cell : Cell → Bytes
printed_cell none = bytes "-"
printed_cell (some t) = t

-- two printed rows are the same
unfoldable pub same_fields : List Bytes → List Bytes → Bool
unfolding alike same
same_fields = alike same

-- a line `row`: the cells, then the count
abbrev pub row_line : List Bytes → ℕ → Line
row_line x n = bytes "row" ∷ (x ++ (decimal n ∷ []))

-- a line `cols`, then a line for each different row, in order, with how often it stands among the rows
unfoldable pub printed : List Bytes → List (List Bytes) → Bytes
unfolding text_of decimal sorted row_before once count same_fields
printed cs rows = text_of ((bytes "cols" ∷ cs) ∷ map (λ x. row_line x (count same_fields x rows)) (sorted row_before (once same_fields rows)))
