-- What a line asks for, by the numbers of its row: groups of lines of one sort. Assumes nothing.
use Rattle.std.specs.Prelude.{ℕ, zero, suc, ◌+◌, ◌/◌, ◌%◌, List, [], ◌∷◌, ◌++◌, Bool, cond, ◌&&◌, get_or, replicate, eqb}
use Rattle.algebra.specs.bridge.Machine.{Want, want}
use Rattle.words.specs.bridge.Code.{sort_at}
use Rattle.scoping.specs.bridge.Places.{Mark, silent, under}

-- how many lines a group has: so many, or as many as the first or second number of the line says, or so many more
abbrev pub amount_in : ℕ → ℕ → ℕ → ℕ → ℕ
amount_in base from first second = get_or (base ∷ first ∷ second ∷ (first + base) ∷ (second + base) ∷ []) from 0

-- the groups of lines below a line, where first and second are its numbers: up to k, by the numbers of its row
unfoldable pub groups : ℕ → ℕ → ℕ → ℕ → ℕ → List Want
groups zero n level first second = []
groups (suc k) n level first second = replicate (amount_in (n % 4) (n / 4 % 8) first second) (want (sort_at (n / 32 % 16)) level first) ++ groups k (n / 512) level first second

-- the mark of a line below another: expressions are silent, and the last pattern may be hidden
abbrev pub mark_under : ℕ → Bool → Bool → Mark → Mark
mark_under sort hide last m = cond (eqb sort 3) silent (cond (eqb sort 2) (cond (hide && last) (under m) m) m)
