-- The call namespaces: each IRI's old start becomes the new one. docs/SPECIFICATION.md, "namespaces". Assumes nothing.
use Rattle.std.specs.Prelude.{suc, Bool, cond, List, [], ◌∷◌, ◌++◌, length, drop}
use Rattle.std.proofs.Math.Option.{Option, none, some}
use Rattle.text.specs.Text.{Bytes}
use Rattle.text.specs.Field.{given}
use Rattle.algebra.specs.Tree.{Pattern}
use Rattle.algebra.specs.Reader.{Outcome as Reading}
use Rattle.algebra.specs.Given.{read_given_tree}
use Rattle.algebra.specs.Layout.{layout}
use Rattle.answers.specs.Outcome.{Outcome, written, then, refused_unless}
use Rattle.scoping.specs.Sets.{all}
use Rattle.converting.specs.Starts.{Start, read_starts, old_starts, begins, in_order}
use Rattle.converting.specs.Terms.{iris_of, with_iris}

-- a line covers an IRI if the bytes behind its < begin with the line's old start
unfoldable pub covers : Bytes → Start → Bool
unfolding begins
covers x s = begins s.old (drop 1 x)

-- the line that covers it: in a table that is in order there is at most one
unfoldable pub covering_line : List Start → Bytes → Option Start
unfolding covers
covering_line [] x = none
covering_line (s ∷ ss) x = cond (covers x s) (some s) (covering_line ss x)

-- <, the new start, and what stands behind the old one
abbrev pub start_replaced : Option Start → Bytes → Bytes
start_replaced none x = x
start_replaced (some s) x = 60 ∷ (s.new ++ drop (suc (length s.old)) x)

unfoldable pub converted_iri : List Start → Bytes → Bytes
unfolding covering_line
converted_iri ss x = start_replaced (covering_line ss x) x

-- no IRI of the tree is a gap: else 15
unfoldable pub is_covered : List Start → Pattern → Bool
unfolding all covering_line iris_of
is_covered ss p = all (λ x. given (covering_line ss x)) (iris_of p)

unfoldable pub converted : List Start → Pattern → Pattern
unfolding converted_iri with_iris
converted ss p = with_iris (converted_iri ss) p

-- texts are checked in the order given: tree, table
abbrev pub namespaces_read : Reading Pattern → Bytes → Outcome
namespaces_read tree table =
    then tree λ p.
    then (read_starts table) λ ss.
    refused_unless 14 (in_order (old_starts ss))
    (refused_unless 15 (is_covered ss p)
    (written (layout (converted ss p))))

unfoldable pub namespaces_outcome : Bytes → Bytes → Outcome
unfolding read_given_tree read_starts in_order is_covered converted layout
namespaces_outcome tree table = namespaces_read (read_given_tree tree) table
