-- Which texts are namespace tables: the lines of a table, its starts' kinds, its bounds. Assumes nothing.
use Rattle.std.specs.Prelude.{◌≡◌, true, List, [], ◌∷◌, length}
use Rattle.text.specs.Text.{Bytes, Line, text_of}
use Rattle.algebra.specs.Tally.{start, tally_rows}
use Rattle.algebra.specs.Bounded.{Within}
use Rattle.converting.specs.Starts.{Start, is_start, start_bounds}

-- one line a pair of starts
unfoldable pub put_starts : List Start → List Line
put_starts [] = []
put_starts (s ∷ ss) = (s.old ∷ s.new ∷ []) ∷ put_starts ss

unfoldable pub layout_starts : List Start → Bytes
unfolding put_starts text_of
layout_starts ss = text_of (put_starts ss)

unfoldable pub ValidStarts : List Start → Type 0
ValidStarts [] = Unit {0}
ValidStarts (s ∷ ss) = (is_start s.old ≡ true) × (is_start s.new ≡ true) × ValidStarts ss

abbrev pub IsTable : Bytes → List Start → Type 0
IsTable t ss = (layout_starts ss ≡ t) × ValidStarts ss × Within start_bounds (layout_starts ss) (tally_rows ss start) 0 (length ss)
