-- What is asked of the lines of binding sets, by the width of the projection. Assumes nothing.
use Rattle.std.specs.Prelude.{ℕ, ◌+◌, ◌≤◌, ◌≡◌, Bool, true, cond, ◌&&◌, List, drop, ltb}
use Rattle.text.specs.Text.{Bytes, Line, same}
use Rattle.text.specs.Word.{bytes}
use Rattle.scoping.specs.Sets.{all}
use Rattle.merging.specs.Request.{position}
use Rattle.negating.specs.bridge.Lines.{word}
use Rattle.filtering.specs.bridge.SetLines.{sets_in, row_usable}
use Rattle.binding.specs.declared.judge.Judged.{Judged}

-- each position is below the width
abbrev pub all_below : ℕ → List Bytes → Bool
all_below w fs = all (λ f. ltb (position f) w) fs

-- an `at` line names only positions below the width
unfoldable pub at_below : ℕ → Line → Bool
unfolding same all position
at_below w l = cond (same (word l) (bytes "at")) (all_below w (drop 1 l)) true

-- what is said with one line more
pub record JudgedLine (w : ℕ) (l : Line) (j r : Judged) : Type 0 where
  pub inside : r.inside ≡ (j.inside && at_below w l)
  pub usable : r.usable ≡ (j.usable && row_usable l)
  pub sets : r.sets ≡ cond (same (word l) (bytes "set")) (j.sets + 1) j.sets
  pub few : r.sets ≤ j.sets + 1

-- what is said of all lines
pub record JudgedAll (w : ℕ) (ls : List Line) (r : Judged) : Type 0 where
  pub inside : r.inside ≡ all (at_below w) ls
  pub usable : r.usable ≡ all row_usable ls
  pub sets : r.sets ≡ sets_in ls
