-- What is found of the fields of a line. Assumes nothing.
use Rattle.std.specs.Prelude.{ℕ, ◌+◌, ◌≤◌, ◌<◌, ◌≡◌, List, [], ◌∷◌, get_or, drop}
use Rattle.text.specs.Text.{Bytes, part, lines_from}
use Rattle.cursor.specs.bridge.Cursor.{left}
use Rattle.placing.specs.declared.field.Field.{Field}

-- the first field of those left from a place on, an empty one if there is none; and where those behind it start
pub record FieldIs (s : Bytes) (at end : ℕ) (f : Field) : Type 0 where
  pub low : at ≤ f.to
  pub high : f.to ≤ end + 1
  pub after : f.to ≤ f.next
  pub last : f.next ≤ end + 1
  pub more : at ≤ end → at < f.next
  pub here : at ≤ end → left s at end ≡ part at f.to s ∷ left s f.next end
  pub is : part at f.to s ≡ get_or (left s at end) 0 []
  pub rest : left s f.next end ≡ drop 1 (left s at end)

-- the fields behind the word of the line that starts here
abbrev pub columns_on : Bytes → ℕ → List Bytes
columns_on s line = drop 1 (get_or (lines_from s line) 0 [])
