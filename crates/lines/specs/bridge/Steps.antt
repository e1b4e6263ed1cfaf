-- What the code's steps along a line leave, by what the line's definition takes. Assumes nothing.
use Rattle.std.specs.Prelude.{ℕ, ◌+◌, ◌≤◌, ◌<◌, ◌≡◌, List, [], length, get_or}
use Rattle.std.proofs.Math.Option.{Option, none, some}
use Rattle.text.specs.Text.{Bytes}
use Rattle.cursor.specs.declared.Cursor.{Cursor}
use Rattle.cursor.specs.bridge.Cursor.{left}
use Rattle.words.specs.bridge.Code.{mapped}
use Rattle.lines.specs.bridge.Line.{Took, Fields}

-- the cursor stands in a line of the text s, and no line end stands between it and the line's
pub record InLine (s : Bytes) (c : Cursor) : Type 0 where
  pub short : length s ≤ 16384
  pub ends : c.end < length s
  pub plain : (k : ℕ) → c.at ≤ k → k < c.end → get_or s k 0 ≡ 10 → ⊥

-- the fields that a cursor has left in its line
abbrev pub left_at : Bytes → Cursor → List Bytes
left_at s c = left s c.at c.end

-- the same line
abbrev pub Along : Cursor → Cursor → Type 0
Along c d = (d.end ≡ c.end) × (d.awaited ≡ c.awaited)

-- the cursor d stands behind what was taken from c on, before the fields that are left; or, where nothing could be taken, two past the end
unfoldable pub Follows : Bytes → Cursor → Option (List Bytes) → Cursor → Type 0
Follows s c none d = Along c d × (d.at ≡ c.end + 2)
Follows s c (some rest) d = Along c d × (c.at ≤ d.at) × (d.at ≤ c.end + 1) × (left_at s d ≡ rest)

abbrev pub rest_of : Option Took → Option (List Bytes)
rest_of o = mapped (λ t. t.rest) o

abbrev pub rest_in : Option Fields → Option (List Bytes)
rest_in o = mapped (λ t. t.rest) o

-- the terms and the number that were taken, none and 0 where nothing was
abbrev pub terms_of : Option Took → List Bytes
terms_of none = []
terms_of (some t) = t.terms

abbrev pub number_taken : Option Took → ℕ
number_taken none = 0
number_taken (some t) = t.number

abbrev pub terms_in : Option Fields → List Bytes
terms_in none = []
terms_in (some t) = t.terms

abbrev pub numbers_in : Option Fields → List ℕ
numbers_in none = []
numbers_in (some t) = t.numbers

-- what the slots of a row took: the cursor behind them, and the first two numbers
unfoldable pub TookSlots : Bytes → Cursor → Option Fields → Cursor → ℕ → ℕ → Type 0
unfolding Follows
TookSlots s c o d first second =
    Follows s c (rest_in o) d × (first < 4294967296) × (second < 4294967296)
    × (d.at ≤ c.end + 1 → (get_or (numbers_in o) 0 0 ≡ first) × (get_or (numbers_in o) 1 0 ≡ second))
