-- Two mappings, one after the other, as one list: docs/SPECIFICATION.md, "Renaming twice". Assumes nothing.
use Rattle.std.specs.Prelude.{not, List, ◌++◌, map}
use Rattle.text.specs.Text.{Bytes}
use Rattle.algebra.specs.Query.{Pair}
use Rattle.algebra.specs.Valid.{mem}
use Rattle.scoping.specs.Sets.{keep}
use Rattle.renaming.specs.Rename.{becomes}

-- the names that a mapping lists
abbrev pub listed_names : List Pair → List Bytes
listed_names xs = map (λ x. x.first) xs

-- a line of the first mapping, its new name taken through the second
abbrev pub onward : List Pair → Pair → Pair
onward ys x = record { first = x.first; second = becomes ys x.second }

-- the first mapping's lines, taken on; then the second's lines for names that the first doesn't list
unfoldable pub composed : List Pair → List Pair → List Pair
unfolding becomes keep mem
composed xs ys = map (onward ys) xs ++ keep (λ y. not (mem y.first (listed_names xs))) ys
