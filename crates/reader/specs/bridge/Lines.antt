-- What the line reader finds. Assumes nothing.
use Rattle.std.specs.Prelude.{ℕ, ◌≤◌, ◌<◌, ◌≡◌, length}
use Rattle.text.specs.Text.{Bytes, First}

-- the line that starts at a place of the text ends at r: a line end stands there, or the text ends
unfoldable pub EndsAt : Bytes → ℕ → ℕ → Type 0
EndsAt s next r = next ≤ length s → First 10 s next (length s) r

-- the line that starts here ends at r; or r is the text's end, and no line that is ended starts here
pub record LineEnd (s : Bytes) (from r : ℕ) : Type 0 where
  pub high : r ≤ length s
  pub ends : r < length s → First 10 s from (length s) r
  pub none : r ≡ length s → (length s ≤ from → ⊥) → First 10 s from (length s) r
