-- The bounds of docs/SPECIFICATION.md as orders, for every kind of text, and the texts of queries and lists. Assumes nothing.
use Rattle.std.specs.Prelude.{ℕ, ◌≤◌, max, ◌≡◌, List, [], ◌∷◌, length}
use Rattle.text.specs.Text.{Bytes, text_of}
use Rattle.algebra.specs.Tree.{Pattern}
use Rattle.algebra.specs.Query.{Query, PairList, Pair, BindingSet, Filter}
use Rattle.algebra.specs.Layout.{layout, put_query, put_pairs, put_sets, put_filters}
use Rattle.algebra.specs.Valid.{Valid, ValidQuery, ValidPairs, ValidSets, ValidFilters}
use Rattle.algebra.specs.Depth.{depth, depth_filter}
use Rattle.algebra.specs.Tally.{Limits, Tally, start, tally, tally_query, tally_pairs, tally_sets, tally_filters}

-- a text, what is counted in it, how deep it is and how many entries it has
pub record Within (β : Limits) (text : Bytes) (m : Tally) (deep many : ℕ) : Type 0 where
  pub bytes : length text ≤ β.bytes
  pub lines : m.lines ≤ β.lines
  pub depth : deep ≤ β.depth
  pub columns : m.wide ≤ β.columns
  pub names : length m.names ≤ β.names
  pub entries : many ≤ β.entries

-- ---- the texts of queries and lists

unfoldable pub layout_query : Query → Bytes
unfolding put_query text_of
layout_query q = text_of (put_query q [])

unfoldable pub layout_pairs : List Pair → Bytes
unfolding put_pairs text_of
layout_pairs xs = text_of (put_pairs xs [])

unfoldable pub layout_sets : List BindingSet → Bytes
unfolding put_sets text_of
layout_sets xs = text_of (put_sets xs [])

unfoldable pub layout_filters : List Filter → Bytes
unfolding put_filters text_of
layout_filters fs = text_of (put_filters fs [])

-- the deepest of a list
unfoldable pub depth_filters : List Filter → ℕ
depth_filters [] = 0
depth_filters (f ∷ fs) = max (depth_filter f) (depth_filters fs)

-- ---- within the bounds: a tree is no list, and only trees and filters have depth

abbrev pub Bounded : Limits → Pattern → Type 0
Bounded β p = Within β (layout p) (tally p start) (depth p) 0

abbrev pub BoundedQuery : Limits → Query → Type 0
BoundedQuery β q = Within β (layout_query q) (tally_query q start) (depth q.tree) 0

abbrev pub BoundedPairs : Limits → PairList → List Pair → Type 0
BoundedPairs β κ xs = Within β (layout_pairs xs) (tally_pairs κ xs start) 0 (length xs)

abbrev pub BoundedSets : Limits → List BindingSet → Type 0
BoundedSets β xs = Within β (layout_sets xs) (tally_sets xs start) 0 (length xs)

abbrev pub BoundedFilters : Limits → List Filter → Type 0
BoundedFilters β fs = Within β (layout_filters fs) (tally_filters fs start) (depth_filters fs) (length fs)

-- ---- a text is that of a well formed tree, query or list within the bounds

abbrev pub IsTree : Limits → Bytes → Pattern → Type 0
IsTree β s p = (layout p ≡ s) × Valid p × Bounded β p

abbrev pub IsQuery : Limits → Bytes → Query → Type 0
IsQuery β s q = (layout_query q ≡ s) × ValidQuery q × BoundedQuery β q

abbrev pub IsPairs : Limits → PairList → Bytes → List Pair → Type 0
IsPairs β κ s xs = (layout_pairs xs ≡ s) × ValidPairs κ [] xs × BoundedPairs β κ xs

abbrev pub IsSets : Limits → Bytes → List BindingSet → Type 0
IsSets β s xs = (layout_sets xs ≡ s) × ValidSets xs × BoundedSets β xs

abbrev pub IsFilters : Limits → Bytes → List Filter → Type 0
IsFilters β s fs = (layout_filters fs ≡ s) × ValidFilters fs × BoundedFilters β fs
