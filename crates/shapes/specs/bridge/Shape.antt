-- A tree's depth from its lines in their order, by the levels at which lines are still to come. Assumes nothing.
use Rattle.std.specs.Prelude.{ℕ, zero, suc, ◌+◌, ◌≤◌, max, ◌≡◌, cond, List, [], ◌∷◌, length}
use Rattle.text.specs.Text.{Bytes, Line, same, lines_from}
use Rattle.text.specs.Word.{bytes}
use Rattle.algebra.specs.Valid.{mem}
use Rattle.filtering.specs.bridge.Copying.{to_come}
use Rattle.shapes.specs.declared.Reached.{Reached}

-- the words of lines that open no level
abbrev pub flat : List Bytes
flat = bytes "t" ∷ bytes "cols" ∷ bytes "row" ∷ bytes "asc" ∷ bytes "desc" ∷ bytes "agg" ∷ bytes "aggall" ∷ []

-- the level that a line with this word opens below another level
unfoldable pub level_of : ℕ → Bytes → ℕ
unfolding mem same
level_of d w = cond (mem w flat) d (suc d)

-- so many lines to come at a level, before others
unfoldable pub again : ℕ → ℕ → List ℕ → List ℕ
again zero d ws = ws
again (suc n) d ws = d ∷ again n d ws

-- the deepest level, and the lines that are left
pub record Shaped : Type 0 where
  pub depth : ℕ
  pub left : List Line

abbrev pub shape : ℕ → List Line → Shaped
shape a ls = record { depth = a; left = ls }

-- the deepest level is a before the first line, and lines are to come below these levels; a line that isn't ended ends it
unfoldable pub shaped : List Line → List ℕ → ℕ → Shaped
unfolding level_of again to_come
shaped [] ws a = shape a []
shaped ([] ∷ ls) ws a = shape a []
shaped ((f ∷ fs) ∷ ls) [] a = shape a ((f ∷ fs) ∷ ls)
shaped ((f ∷ fs) ∷ ls) (d ∷ ws) a = shaped ls (again (to_come (f ∷ fs)) (level_of d f) ws) (max a (level_of d f))

-- how many lines are ended
unfoldable pub ended_lines : List Line → ℕ
ended_lines [] = 0
ended_lines ([] ∷ ls) = 0
ended_lines ((f ∷ fs) ∷ ls) = suc (ended_lines ls)

-- ---- what the code knows

-- from a place, n lines and the deepest level a, a line below a level and all that it asks for were passed
pub record Passes (s : Bytes) (level at n a : ℕ) (r : Reached) : Type 0 where
  pub on : at ≤ r.at
  pub high : r.at ≤ length s
  pub few : r.lines ≤ r.at
  pub lines : r.lines + ended_lines (lines_from s r.at) ≡ n + ended_lines (lines_from s at)
  pub depth : (ws : List ℕ) → shaped (lines_from s at) (level ∷ ws) a ≡ shaped (lines_from s r.at) ws r.depth

-- of n lines to come at level d, so many are left
pub record Going (s : Bytes) (d n : ℕ) (p : Reached) (left : ℕ) (r : Reached) : Type 0 where
  pub on : p.at ≤ r.at
  pub high : r.at ≤ length s
  pub few : r.lines ≤ r.at
  pub low : d ≤ r.at
  pub lines : r.lines + ended_lines (lines_from s r.at) ≡ p.lines + ended_lines (lines_from s p.at)
  pub depth : (ws : List ℕ) → shaped (lines_from s p.at) (again n d ws) p.depth ≡ shaped (lines_from s r.at) (again left d ws) r.depth
