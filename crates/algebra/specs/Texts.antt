-- The texts of a public call, read within the specification's bounds; and a tree without bounds, as a merge may write it. Assumes nothing.
use Rattle.std.specs.Prelude.{List, length}
use Rattle.text.specs.Text.{Bytes}
use Rattle.algebra.specs.Tree.{Pattern}
use Rattle.algebra.specs.Query.{Query, PairList, Pair, BindingSet, Filter}
use Rattle.algebra.specs.Tally.{bounds, roomy}
use Rattle.algebra.specs.Reader.{Outcome, read_text}
use Rattle.algebra.specs.Reading.{tree}
use Rattle.algebra.specs.ListReading.{query, pairs, binding_sets, filters}

unfoldable pub read_tree : Bytes → Outcome Pattern
read_tree s = read_text bounds (tree bounds) s

unfoldable pub read_query : Bytes → Outcome Query
read_query s = read_text bounds (query bounds) s

unfoldable pub read_pairs : PairList → Bytes → Outcome (List Pair)
read_pairs κ s = read_text bounds (pairs bounds κ) s

unfoldable pub read_sets : Bytes → Outcome (List BindingSet)
read_sets s = read_text bounds (binding_sets bounds) s

unfoldable pub read_filters : Bytes → Outcome (List Filter)
read_filters s = read_text bounds (filters bounds) s

-- no part of a text is more than its bytes, so this bounds nothing
unfoldable pub read_any_tree : Bytes → Outcome Pattern
read_any_tree s = read_text (roomy (length s)) (tree (roomy (length s))) s
