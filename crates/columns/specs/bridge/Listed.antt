-- What the code finds in a list of pairs that was checked. Assumes nothing.
use Rattle.std.specs.Prelude.{Option, ℕ, zero, suc, ◌≤◌, ◌<◌, ◌≡◌, List, [], ◌∷◌, ◌++◌, map, Bool, true, false, cond, length, get_or, take, drop, ltb, Some, None}
use Rattle.text.specs.Text.{Bytes, lines_of, lines_from}
use Rattle.algebra.specs.Query.{Pair}
use Rattle.algebra.specs.Layout.{put_pairs}
use Rattle.algebra.specs.Tally.{bounds}
use Rattle.scoping.specs.Sets.{all}
use Rattle.merging.specs.Request.{position}
use Rattle.merging.specs.Names.{place_in}

-- the text is a list of these pairs, within the bounds
pub record Listed (s : Bytes) (xs : List Pair) : Type 0 where
  pub lines : lines_of s ≡ put_pairs xs []
  pub few : length xs ≤ bounds.entries
  pub short : length s ≤ 16384

-- the positions in the first field of each pair, or in the second
abbrev pub positions_in : Bool → List Pair → List ℕ
positions_in second xs = map (λ (x : Pair). position (cond second x.second x.first)) xs

-- the positions stand in one array, and the places of their lines in another
pub record Kept (s : Bytes) (xs : List Pair) (second : Bool) (at lines : List ℕ) (m : ℕ) : Type 0 where
  pub many : m ≡ length xs
  pub positions : take m at ≡ positions_in second xs
  pub places : (k : ℕ) → k < m → lines_from s (get_or lines k 0) ≡ put_pairs (drop k xs) []

-- how many positions there are, if none is outside
abbrev pub Positions : Type 0
Positions = Option ℕ

-- all are below c, and kept; or one is not
unfoldable pub Found : Bytes → List Pair → Bool → ℕ → List ℕ → List ℕ → Positions → Type 0
Found s xs second c at lines None = all (λ i. ltb i c) (positions_in second xs) ≡ false
Found s xs second c at lines (Some m) = (all (λ i. ltb i c) (positions_in second xs) ≡ true) × Kept s xs second at lines m

-- an array has the place of each position among some, and a number from their number on for any other
pub record Ordered (ps order : List ℕ) : Type 0 where
  pub there : (p : ℕ) → p < bounds.entries → place_in p ps < length ps → get_or order p 0 ≡ place_in p ps
  pub else : (p : ℕ) → p < bounds.entries → length ps ≤ place_in p ps → length ps ≤ get_or order p 0

-- ---- the terms of a constant list, as they are written

-- the second field of the first pair, if there is one
abbrev pub second_of : List Pair → List Bytes
second_of [] = []
second_of (x ∷ xs) = x.second ∷ []

-- the terms at n positions from i on, of those that are listed
unfoldable pub terms_from : List Pair → ℕ → ℕ → List Bytes
unfolding place_in
terms_from xs i zero = []
terms_from xs i (suc n) = second_of (drop (place_in i (positions_in false xs)) xs) ++ terms_from xs (suc i) n
