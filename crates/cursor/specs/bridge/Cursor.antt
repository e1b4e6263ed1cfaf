-- What the cursor's steps find. Assumes nothing.
use Rattle.std.specs.Prelude.{Option, ℕ, ◌+◌, ◌-◌, ◌<◌, ◌≡◌, List, [], cond, leb, Some, None}
use Rattle.text.specs.Text.{Bytes, split, part, First}
use Rattle.cursor.specs.declared.Cursor.{Cursor}
use Rattle.cursor.specs.declared.Field.{Field}

-- the fields of the line that ends at `end` which stand from `at` on
unfoldable pub left : Bytes → ℕ → ℕ → List Bytes
left s at end = cond (leb at end) (split 9 (part at end s)) []

-- what a step to the next field found
abbrev pub Reading : Type 0
Reading = Option Field

-- a field with its end and the cursor behind it
abbrev pub field : ℕ → Cursor → Field
field e d = record { end = e; behind = d }

-- a field up to its tab or the line's end, and the cursor behind it; or none is left
unfoldable pub Reads : Bytes → Cursor → Reading → Type 0
Reads s c (Some f) = First 9 s c.at c.end f.end × (f.behind.at ≡ f.end + 1) × (f.behind.end ≡ c.end) × (f.behind.awaited ≡ c.awaited)
Reads s c None = c.end < c.at

-- the cursor at another place
abbrev pub moved_to : Cursor → ℕ → Cursor
moved_to c i = record { at = i; end = c.end; awaited = c.awaited }

-- the cursor in the line that starts here and ends at a place
abbrev pub line_at : Cursor → ℕ → Cursor
line_at c e = record { at = c.at; end = e; awaited = c.awaited }

-- behind its line
abbrev pub line_done : Cursor → Cursor
line_done c = record { at = c.end + 1; end = c.end; awaited = c.awaited }

-- with so many lines awaited
abbrev pub awaiting_many : Cursor → ℕ → Cursor
awaiting_many c n = record { at = c.at; end = c.end; awaited = n }

-- where a child ended, with one line fewer awaited
abbrev pub child_done : Cursor → Cursor → Cursor
child_done c d = record { at = d.at; end = d.end; awaited = c.awaited - 1 }
