-- Scope on a tree's text as it stands, as the code proves it behind the test for an empty file. Assumes nothing.
use Rattle.text.specs.Text.{Bytes}
use Rattle.algebra.specs.Texts.{read_tree}
use Rattle.answers.specs.Outcome.{Outcome}
use Rattle.surveying.specs.Scope.{scope_text, scope_read}

unfoldable pub scope_as_is : Bytes → Outcome
unfolding read_tree scope_text
scope_as_is tree = scope_read (read_tree tree)
