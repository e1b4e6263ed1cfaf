-- What the code says of a whole line, by what the line's definition and the line machine make of it. Assumes nothing.
use Rattle.std.specs.Prelude.{Result, ℕ, suc, ◌+◌, ◌≤◌, ◌<◌, pred, ◌≡◌, List, [], ◌∷◌, true, cond, get_or, Some, Ok, Err}
use Rattle.std.proofs.Math.Option.{Option, none, some}
use Rattle.text.specs.Text.{Bytes, split, part}
use Rattle.cursor.specs.declared.Cursor.{Cursor}
use Rattle.algebra.specs.Tally.{Tally, bounds}
use Rattle.algebra.specs.Reader.{malformed, over_bound, got, refused}
use Rattle.algebra.specs.bridge.Table.{Tail, patterns, one, ◌of◌, opens}
use Rattle.algebra.specs.bridge.Machine.{want, wants, line_of}
use Rattle.words.specs.declared.Row.{Row as Code}
use Rattle.words.specs.bridge.Code.{sort_at, groups_in, row_of, found, Tidy}
use Rattle.words.specs.bridge.Words.{code_at}
use Rattle.scoping.specs.bridge.Spots.{noted}
use Rattle.names.specs.bridge.Names.{Holds}
use Rattle.lines.specs.declared.line.Asked.{Asked}
use Rattle.lines.specs.bridge.Line.{Fields, columns_of}
use Rattle.lines.specs.bridge.Steps.{Along}
use Rattle.algebra.specs.declared.Fault.{Fault}
use Rattle.algebra.specs.declared.Fault.TheVariants.{Malformed, OverBound}

-- one past the line's end everything was taken, with these numbers and columns; elsewhere it could not be
pub record Says (c : Cursor) (o : Option Fields) (t : Tail) (d : Cursor) (first second width : ℕ) : Type 0 where
  pub along : Along c d
  pub small : (first < 4294967296) × (second < 4294967296)
  pub whole : d.at ≡ c.end + 1 → (u : Fields) × (o ≡ some u) × (get_or u.numbers 0 0 ≡ first) × (get_or u.numbers 1 0 ≡ second) × (columns_of t u.terms ≡ width)
  pub broken : (d.at ≡ c.end + 1 → ⊥) → o ≡ none

-- how many levels may be opened below a line
abbrev pub below : ℕ → ℕ → ℕ
below sort level = cond (opens (sort_at sort)) (pred level) level

-- what a line asks for, or why it is refused
abbrev pub Line : Type 0
Line = Result Asked Fault

-- the line is refused as the machine refuses it; or it asks for the same lines, counts the same, and keeps the same names
unfoldable pub LineIs : Bytes → List ℕ → List ℕ → List ℕ → Cursor → ℕ → ℕ → ℕ → Tally → Line → Type 0
LineIs s starts sizes hints c sort level width m (Err Malformed) = line_of bounds (want (sort_at sort) level width) (split 9 (part c.at c.end s) ∷ []) m ≡ refused malformed
LineIs s starts sizes hints c sort level width m (Err OverBound) = line_of bounds (want (sort_at sort) level width) (split 9 (part c.at c.end s) ∷ []) m ≡ refused over_bound
LineIs s starts sizes hints c sort level width m (Ok a) =
    (cs : List ℕ) × (m' : Tally)
    × (line_of bounds (want (sort_at sort) level width) (split 9 (part c.at c.end s) ∷ []) m ≡ got (wants (below sort level) cs (row_of a.row).below) [] m')
    × (get_or cs 0 0 ≡ a.first) × (get_or cs 1 0 ≡ a.second) × (a.first < 4294967296) × (a.second < 4294967296)
    × (m'.lines ≡ suc m.lines) × (m'.wide ≤ bounds.columns) × Holds s starts sizes hints a.names m'.names × (a.names ≤ 1024)
    × Tidy sort (Some a.row) × (opens (sort_at sort) ≡ true → level ≡ 0 → ⊥)

-- the row of a query's head: a pattern stands below it, which it doesn't hide, and no number counts it
pub record Heads (r : Code) (n : ℕ) : Type 0 where
  pub below : groups_in 3 r.below ≡ one of patterns ∷ []
  pub flag : r.flag ≡ 0
  pub none : n ≡ 0

-- what is known of a good line: its numbers are those of a field, its row is that of its word's number in the table, it has a level if it opens one, it is no line too many, and its word has two bytes if it is noted
pub record Sure (words : List (List ℕ)) (c : Cursor) (sort level lines : ℕ) (a : Asked) : Type 0 where
  pub first : a.first < 4294967296
  pub second : a.second < 4294967296
  pub tidy : Tidy sort (Some a.row)
  pub deep : opens (sort_at sort) ≡ true → level ≡ 0 → ⊥
  pub number : a.number ≤ 56
  pub row : found (code_at words a.number) ≡ Some a.row
  pub few : lines < 2048
  pub long : noted (sort_at sort) ≡ true → c.at + 2 ≤ c.end
  pub head : sort ≡ 7 → Heads a.row a.first

abbrev pub Small : List (List ℕ) → Cursor → ℕ → ℕ → ℕ → Line → Type 0
Small words c sort level lines (Ok a) = Sure words c sort level lines a
Small words c sort level lines (Err Malformed) = Unit {0}
Small words c sort level lines (Err OverBound) = Unit {0}
