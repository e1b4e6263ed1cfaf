-- The call scope: docs/SPECIFICATION.md, "Operation by operation", scope. Assumes nothing.
use Rattle.std.specs.Prelude.{[], ◌∷◌}
use Rattle.text.specs.Text.{Bytes, text_of}
use Rattle.text.specs.Word.{bytes}
use Rattle.algebra.specs.Tree.{Pattern}
use Rattle.algebra.specs.Reader.{Outcome as Reading}
use Rattle.algebra.specs.Given.{read_given_tree}
use Rattle.scoping.specs.Numbering.{in_scope_by_place, hidden_by_place}
use Rattle.answers.specs.Outcome.{Outcome, written, then}

-- the two lines: variables_in_pattern's two sets, by first place in the text
unfoldable pub scope_text : Pattern → Bytes
unfolding text_of in_scope_by_place hidden_by_place
scope_text p = text_of ((bytes "in" ∷ in_scope_by_place p) ∷ (bytes "hid" ∷ hidden_by_place p) ∷ [])

-- of a tree as it was read
abbrev pub scope_read : Reading Pattern → Outcome
scope_read tree = then tree λ p. written (scope_text p)

-- docs/SPECIFICATION.md, "Operation by operation", scope, of a given text
unfoldable pub scope_outcome : Bytes → Outcome
unfolding read_given_tree scope_text
scope_outcome tree = scope_read (read_given_tree tree)
