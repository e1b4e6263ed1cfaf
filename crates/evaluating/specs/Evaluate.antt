-- The call evaluate: a tree of the counting part over a text of triples, its rows printed with their counts. docs/SPECIFICATION.md, "Printed rows". Assumes nothing.
use Rattle.std.specs.Prelude.{ℕ, Bool, ◌&&◌, List, map, leb}
use Rattle.text.specs.Text.{Bytes}
use Rattle.algebra.specs.Tree.{Triple, Pattern}
use Rattle.algebra.specs.Reader.{Outcome as Reading}
use Rattle.algebra.specs.Given.{read_given_tree}
use Rattle.answers.specs.Outcome.{Outcome, written, then, or_refused, refused_unless}
use Rattle.counting.specs.Answer.{answer}
use Rattle.counting.specs.Countable.{is_countable, extends_fresh, expressions_known}
use Rattle.merging.specs.Request.{as_project, Projection, tree}
use Rattle.evaluating.specs.Triples.{read_triples}
use Rattle.evaluating.specs.Print.{printed_cell, printed}
use Rattle.evaluating.specs.Bounds.{tables_fit}

-- the lent space: so many entries of 16 bits, or more
abbrev pub table_space : ℕ
table_space = 6644736

-- a tree of the counting part; an extend sets no variable in scope beneath it, and expressions name only variables that are in scope or hidden
unfoldable pub is_evaluable : Pattern → Bool
unfolding is_countable extends_fresh expressions_known
is_evaluable p = is_countable p && (extends_fresh p && expressions_known p)

-- the printed answer to a projection
unfoldable pub answer_text : List Triple → Projection → Bytes
unfolding printed answer
answer_text g x = printed x.columns (map (map printed_cell) (answer x.columns g (tree x)))

-- the tree, the triples, 16, 17, the printed answer
abbrev pub evaluate_read : ℕ → Reading Pattern → Bytes → Outcome
evaluate_read space text triples =
    then text λ p.
    then (read_triples triples) λ g.
    or_refused 16 (as_project p) λ x.
    refused_unless 16 (is_evaluable p)
    (refused_unless 17 (leb table_space space && tables_fit g p) (written (answer_text g x)))

unfoldable pub evaluate_outcome : ℕ → Bytes → Bytes → Outcome
unfolding read_given_tree read_triples as_project is_evaluable tables_fit answer_text
evaluate_outcome space text triples = evaluate_read space (read_given_tree text) triples
