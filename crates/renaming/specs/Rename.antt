-- The call rename: nemo's rename_in_graph_pattern (queries.rs) under a mapping. Assumes nothing.
use Rattle.std.specs.Prelude.{List, map}
use Rattle.text.specs.Text.{Bytes}
use Rattle.algebra.specs.Tree.{Pattern}
use Rattle.algebra.specs.Query.{Pair, mapping}
use Rattle.algebra.specs.Reader.{Outcome as Reading}
use Rattle.algebra.specs.Texts.{read_pairs}
use Rattle.algebra.specs.Given.{read_given_tree}
use Rattle.algebra.specs.Layout.{layout}
use Rattle.scoping.specs.Rename.{rename_in_graph_pattern}
use Rattle.scoping.specs.Standardize.{entry, renamed}
use Rattle.answers.specs.Outcome.{Outcome, written, then}

-- mapping.get(variable).unwrap_or(variable), for the mapping whose lines are `?from ?to`
unfoldable pub becomes : List Pair → Bytes → Bytes
unfolding renamed
becomes xs v = renamed (map (λ x. entry x.first x.second) xs) v

-- of a tree as it was read: texts are checked in the order given, tree, mapping
abbrev pub rename_read : Reading Pattern → Bytes → Outcome
rename_read tree pairs = then tree λ p. then (read_pairs mapping pairs) λ xs. written (layout (rename_in_graph_pattern (becomes xs) p))

-- docs/SPECIFICATION.md, "Operation by operation", rename, of given texts
unfoldable pub rename_outcome : Bytes → Bytes → Outcome
unfolding read_given_tree read_pairs layout rename_in_graph_pattern becomes
rename_outcome tree pairs = rename_read (read_given_tree tree) pairs
