-- The way down to the outermost projection, line by line, and what the code says of it; proofs/TreeLines says what that is of a tree. Assumes nothing.
use Rattle.std.specs.Prelude.{Option as Maybe, ℕ, ◌≤◌, ◌<◌, ◌≡◌, Bool, cond, List, [], ◌∷◌, length, get_or, Some, None}
use Rattle.std.proofs.Math.Option.{Option, none, some}
use Rattle.text.specs.Text.{Bytes, Line, same, lines_from}
use Rattle.text.specs.Word.{bytes}
use Rattle.algebra.specs.Valid.{mem}
use Rattle.negating.specs.declared.Outermost.{Outermost}

abbrev pub word : Line → Bytes
word l = get_or l 0 []

-- the lines that are passed on the way down; a group's `cols` stands between its line and its inner pattern
abbrev pub passed : List Bytes
passed = bytes "distinct" ∷ bytes "reduced" ∷ bytes "slice" ∷ bytes "orderby" ∷ bytes "group" ∷ bytes "cols" ∷ []

unfoldable pub is_passed : Bytes → Bool
unfolding mem same
is_passed w = mem w passed

-- the lines from the outermost projection's on
unfoldable pub from_project : List Line → Option (List Line)
unfolding is_passed mem same
from_project [] = none
from_project (l ∷ ls) = cond (same (word l) (bytes "project")) (some (l ∷ ls)) (cond (is_passed (word l)) (from_project ls) none)

-- the way down from `from` ends at the projection's line, and its inner pattern starts behind that line
pub record Projects (s : Bytes) (from line inner : ℕ) : Type 0 where
  pub low : from ≤ line
  pub less : line < inner
  pub high : inner ≤ length s
  pub columns : List Bytes
  pub here : lines_from s line ≡ (bytes "project" ∷ columns) ∷ lines_from s inner
  pub found : from_project (lines_from s from) ≡ some (lines_from s line)

-- what the search for it finds
abbrev pub Search : Type 0
Search = Maybe Outermost

abbrev pub Finds : Bytes → ℕ → Search → Type 0
Finds s from (Some o) = Projects s from o.line o.inner
Finds s from None = from_project (lines_from s from) ≡ none
