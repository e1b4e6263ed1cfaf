-- The distinct variables of a text, by first place: what the variable table lists. Assumes nothing.
use Rattle.std.specs.Prelude.{List}
use Rattle.text.specs.Text.{Bytes}
use Rattle.algebra.specs.Tree.{Pattern}
use Rattle.algebra.specs.Query.{Query, BindingSet, Filter}
use Rattle.algebra.specs.Tally.{start, tally, tally_query, tally_sets, tally_filters}

abbrev pub tree_names : Pattern → List Bytes
tree_names p = (tally p start).names

abbrev pub query_names : Query → List Bytes
query_names q = (tally_query q start).names

-- binding sets and filters have none
abbrev pub set_names : List BindingSet → List Bytes
set_names xs = (tally_sets xs start).names

abbrev pub filter_names : List Filter → List Bytes
filter_names fs = (tally_filters fs start).names
