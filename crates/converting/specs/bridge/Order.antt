-- A table in order, as one pass sees it, and a search in it. Assumes nothing.
use Rattle.std.specs.Prelude.{ℕ, zero, suc, Bool, true, false, cond, ◌&&◌, ◌||◌, List, [], ◌∷◌, drop, ltb, eqb}
use Rattle.std.proofs.Math.Option.{Option, none, some}
use Rattle.text.specs.Text.{Bytes}
use Rattle.converting.specs.Starts.{Start, less, old_starts}
use Rattle.converting.specs.Namespaces.{covers}

-- a stands before b, and at a byte that both have: neither begins the other
unfoldable pub before : Bytes → Bytes → Bool
before [] b = false
before (x ∷ xs) [] = false
before (x ∷ xs) (y ∷ ys) = ltb x y || (eqb x y && before xs ys)

-- each start stands so before the next one
unfoldable pub neighbours : List Bytes → Bool
unfolding before
neighbours [] = true
neighbours (a ∷ []) = true
neighbours (a ∷ b ∷ bs) = before a b && neighbours (b ∷ bs)

-- how many starts are passed before the first that x stands before
unfoldable pub rank : Bytes → List Bytes → ℕ
unfolding less
rank x [] = 0
rank x (b ∷ bs) = cond (less x b) 0 (suc (rank x bs))

-- line number k, if it covers x
unfoldable pub line_if : Bytes → List Start → ℕ → Option Start
unfolding covers
line_if x [] k = none
line_if x (s ∷ ss) zero = cond (covers x s) (some s) none
line_if x (s ∷ ss) (suc k) = line_if x ss k

-- the last of the lines that are passed, if it covers x
abbrev pub last_of : Bytes → List Start → ℕ → Option Start
last_of x ss zero = none
last_of x ss (suc k) = line_if x ss k

unfoldable pub searched : List Start → Bytes → Option Start
unfolding rank line_if
searched ss x = last_of x ss (rank (drop 1 x) (old_starts ss))
