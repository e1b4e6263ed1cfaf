-- Where a pattern's lines end. Assumes nothing.
use Rattle.std.specs.Prelude.{ℕ, ◌≤◌, ◌≡◌, Bool, true, false, cond, List, [], ◌∷◌, ◌++◌, length}
use Rattle.text.specs.Text.{Bytes, Line, same, text_of, part, lines_from}
use Rattle.text.specs.Word.{bytes}
use Rattle.text.proofs.Texts.{Ended}
use Rattle.algebra.specs.Valid.{mem}
use Rattle.negating.specs.bridge.Lines.{word}
use Rattle.filtering.specs.bridge.Copying.{copying}

-- the bytes from one place to the other are those of the pattern's own lines, if all lines are ended
pub record EndsAt (s : Bytes) (from to : ℕ) : Type 0 where
  pub low : from ≤ to
  pub high : to ≤ length s
  pub copied : Ended (lines_from s from) → (v : List Line) → text_of (copying (lines_from s from) 1 v) ≡ part from to s ++ text_of v

-- a line with one of these words has a pattern below it and nothing else
abbrev pub bare : List Bytes
bare = bytes "distinct" ∷ bytes "reduced" ∷ bytes "slice" ∷ []

unfoldable pub is_bare : Bytes → Bool
unfolding mem same
is_bare w = mem w bare

-- only such lines stand above the outermost projection's
unfoldable pub bare_down : List Line → Bool
unfolding is_bare mem same
bare_down [] = false
bare_down (l ∷ ls) = cond (same (word l) (bytes "project")) true (cond (is_bare (word l)) (bare_down ls) false)
