-- How the code keeps the variables of a tree's text: for each field that may be renamed its start, its name's entry in the table, and its mark. Assumes nothing.
use Rattle.std.specs.Prelude.{ℕ, zero, suc, ◌≤◌, ◌<◌, ◌≡◌, List, [], ◌∷◌, ◌++◌, length, get_or}
use Rattle.text.specs.Text.{Bytes, lines_from}
use Rattle.algebra.specs.bridge.Table.{patterns}
use Rattle.algebra.specs.Tally.{bounds}
use Rattle.scoping.specs.bridge.Places.{Mark, visible, covered, silent}
use Rattle.scoping.specs.bridge.Walk.{state, tree}
use Rattle.scoping.specs.bridge.Spots.{Spot, spot, Node, trace, spot_line}

-- the marks by their numbers
abbrev pub mark_at : ℕ → Mark
mark_at zero = visible
mark_at (suc zero) = covered
mark_at (suc (suc k)) = silent

-- one of them, where ns are the names of the table
abbrev pub spot_at : List Bytes → List ℕ → Spot
spot_at ns e = spot (get_or e 0 0) (get_or ns (get_or e 1 0) []) (mark_at (get_or e 2 0))

-- the first k of them, in order
unfoldable pub spots_of : List Bytes → List (List ℕ) → ℕ → List Spot
spots_of ns a zero = []
spots_of ns a (suc k) = spots_of ns a k ++ (spot_at ns (get_or a k []) ∷ [])

-- the first k entries of an array are these, and each names an entry of the table
pub record Spotted (ns : List Bytes) (a : List (List ℕ)) (k : ℕ) (xs : List Spot) : Type 0 where
  pub many : k ≤ length a
  pub are : spots_of ns a k ≡ xs
  pub inside : (i : ℕ) → i < k → get_or (get_or a i []) 1 0 < length ns

-- the first k are all that the walk over the tree that stands in s from a place on finds, to the end of the text; it notes these lines
pub record Noted (s : Bytes) (from : ℕ) (ns : List Bytes) (a : List (List ℕ)) (k : ℕ) : Type 0 where
  pub spots : List Spot
  pub nodes : List Node
  pub walked : tree spot_line bounds.depth patterns visible (state (lines_from s from) (trace from [] [])) ≡ state [] (trace (length s) spots nodes)
  pub kept : Spotted ns a k spots
