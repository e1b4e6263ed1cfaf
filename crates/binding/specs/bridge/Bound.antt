-- What bindings writes, by places in its texts. Assumes nothing.
use Rattle.std.specs.Prelude.{ℕ, ◌≤◌, ◌<◌, min, ◌≡◌, Bool, true, false, ◌⊎◌, List, [], ◌++◌, map, take, drop}
use Rattle.text.specs.Text.{Bytes, Line, text_of, part}
use Rattle.text.specs.Word.{bytes}
use Rattle.emit.specs.bridge.Emit.{last}
use Rattle.merging.specs.Sides.{column_at}
use Rattle.merging.specs.Request.{position}
use Rattle.filtering.specs.bridge.SetLines.{repeated, values_line}

-- the columns at the positions that these fields are
abbrev pub bound_from : List Bytes → List Bytes → List Bytes
bound_from cs fs = map (λ k. column_at cs (position k)) fs

-- down to the projection, so many lines `join`, the inner pattern, the Values' lines, the rest
unfoldable pub bound_at : Bytes → ℕ → ℕ → ℕ → List Bytes → List Line → Bytes
unfolding repeated text_of values_line
bound_at s inner end joins cs sets =
    take inner s ++ (text_of (repeated joins (bytes "join") []) ++ (part inner end s ++ (text_of (map (values_line cs) sets) ++ drop end s)))

-- there is room for an answer of that size, or for the most that an answer can be
pub record Holds (most size room : ℕ) (r : Bool) : Type 0 where
  pub yes : r ≡ true → (most ≤ room) ⊎ (min size last ≤ room)
  pub no : r ≡ false → room < min size last
