-- Namespaces on a tree's text as it stands, as the code proves it behind the test for an empty file. Assumes nothing.
use Rattle.text.specs.Text.{Bytes}
use Rattle.algebra.specs.Layout.{layout}
use Rattle.algebra.specs.Texts.{read_tree}
use Rattle.answers.specs.Outcome.{Outcome}
use Rattle.converting.specs.Starts.{read_starts, in_order}
use Rattle.converting.specs.Namespaces.{is_covered, converted, namespaces_read}

unfoldable pub namespaces_as_is : Bytes → Bytes → Outcome
unfolding read_tree read_starts in_order is_covered converted layout
namespaces_as_is tree table = namespaces_read (read_tree tree) table
