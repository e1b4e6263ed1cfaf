-- What the code says of a filter, and of all filters. Assumes nothing.
use Rattle.std.specs.Prelude.{ℕ, ◌≤◌, ◌≡◌, Bool, false, List, [], ◌∷◌, ◌++◌, length, take}
use Rattle.text.specs.Text.{Bytes, Line, text_of, lines_from}
use Rattle.algebra.specs.Tally.{bounds}
use Rattle.emit.specs.bridge.Emit.{Em, em, puts}
use Rattle.filtering.specs.bridge.FilterLines as Lines
use Rattle.filtering.specs.bridge.FilterLines.{is_true_line, tree_to_expression, Placed, placed_filters}
use Rattle.expressing.specs.declared.express.Walked.{Walked}
use Rattle.expressing.specs.declared.place.Noted.{Noted}

-- whether all of it is expressed, what was written, and where the lines behind it start
pub record Walks (s : Bytes) (w : Lines.Walked) (before after : Em) (r : Walked) : Type 0 where
  pub expressed : r.expressed ≡ w.expressed
  pub lines : after ≡ puts (text_of w.lines) before
  pub left : lines_from s r.from ≡ w.left

-- the first of these lines is that of a filter that is always true
unfoldable pub is_true_first : List Line → Bool
unfolding is_true_line
is_true_first [] = false
is_true_first (l ∷ ls) = is_true_line l

-- the lines of the expressions of the filters that start at these places
unfoldable pub lines_at : List Bytes → Bytes → List ℕ → List Line
unfolding tree_to_expression lines_from
lines_at cs s [] = []
lines_at cs s (a ∷ bs) = (tree_to_expression cs bounds.lines (lines_from s a)).lines ++ lines_at cs s bs

-- the filters of a text from a place on, of which the first has a number
abbrev pub filters_from : Bool → List Bytes → Bytes → ℕ → ℕ → ℕ → Placed
filters_from found cs s i k from = placed_filters found cs bounds.lines i k (lines_from s from)

-- how many filters of the text are placed, how long their lines are, where they start, and the numbers of the others
pub record Notes (found : Bool) (cs : List Bytes) (s : Bytes) (starts numbers : List ℕ) (r : Noted) : Type 0 where
  pub many : r.many ≡ (filters_from found cs s 0 bounds.entries 0).many
  pub size : em r.size [] ≡ puts (text_of (filters_from found cs s 0 bounds.entries 0).lines) (em 0 [])
  pub lines : lines_at cs s (take r.many starts) ≡ (filters_from found cs s 0 bounds.entries 0).lines
  pub others : take r.others numbers ≡ (filters_from found cs s 0 bounds.entries 0).others
  pub few : r.many ≤ bounds.entries
  pub rest : r.others ≤ bounds.entries
  pub starts-long : length starts ≡ bounds.entries
  pub numbers_long : length numbers ≡ bounds.entries
