-- Rename on a tree's text as it stands, as the code proves it behind the test for an empty file. Assumes nothing.
use Rattle.text.specs.Text.{Bytes}
use Rattle.algebra.specs.Layout.{layout}
use Rattle.algebra.specs.Texts.{read_tree, read_pairs}
use Rattle.scoping.specs.Rename.{rename_in_graph_pattern}
use Rattle.answers.specs.Outcome.{Outcome}
use Rattle.renaming.specs.Rename.{becomes, rename_read}

unfoldable pub rename_as_is : Bytes → Bytes → Outcome
unfolding read_tree read_pairs layout rename_in_graph_pattern becomes
rename_as_is tree pairs = rename_read (read_tree tree) pairs
