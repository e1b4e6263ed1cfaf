-- The texts of an input by places in it. Assumes nothing.
use Rattle.std.specs.Prelude.{ℕ, zero, suc, ◌+◌, ◌-◌, ◌≤◌, ◌<◌, ◌≡◌, List, [], ◌∷◌, cond, length, get_or, ltb}
use Rattle.text.specs.Text.{Bytes, split, part}
use Rattle.parted.specs.Parted.{texts_in, texts}

-- the texts from the start of a line on
unfoldable pub texts_from : Bytes → ℕ → List Bytes
unfolding split texts_in
texts_from s at = texts_in (split 10 (part at (length s) s))

-- the texts behind the line `--` that stands at a place, if one does
unfoldable pub after : Bytes → ℕ → List Bytes
unfolding texts_from
after s at = cond (ltb at (length s)) (texts_from s (at + 3)) []

-- the text that starts at `from` ends at `r`: a line `--` stands there, or the input ends
pub record Ends (s : Bytes) (from r : ℕ) : Type 0 where
  pub low : from ≤ r
  pub high : r ≤ length s
  pub room : r < length s → r + 3 ≤ length s
  pub first : texts_from s from ≡ part from r s ∷ after s r

-- a line `--` stands at a place of the text that starts at `from`
pub record BarAt (s : Bytes) (from at : ℕ) : Type 0 where
  pub start : (at ≡ from → ⊥) → get_or s (at - 1) 0 ≡ 10
  pub fits : at + 3 ≤ length s
  pub dash : get_or s at 0 ≡ 45
  pub again : get_or s (at + 1) 0 ≡ 45
  pub over : get_or s (at + 2) 0 ≡ 10

-- where the text of a number starts: at the beginning, or behind the line `--` that ends the one before
abbrev pub start_of : List ℕ → ℕ → ℕ
start_of ends zero = 0
start_of ends (suc k) = get_or ends k 0 + 3

-- a text stands between its start and its end
pub record Stands (s : Bytes) (ends : List ℕ) (k : ℕ) : Type 0 where
  pub ended : Ends s (start_of ends k) (get_or ends k 0)
  pub left : (i : ℕ) → get_or (texts s) (k + i) [] ≡ get_or (texts_from s (start_of ends k)) i []

-- of the texts up to number n, each of the first m does
pub record Parted (s : Bytes) (ends : List ℕ) (m n : ℕ) : Type 0 where
  pub each : (k : ℕ) → k ≤ n → k < m → Stands s ends k
  pub going : (k : ℕ) → k < n → k < m → get_or ends k 0 < length s
