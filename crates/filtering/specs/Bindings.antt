-- The call bindings: nemo's pattern_with_bindings (queries.rs). Assumes nothing.
use Rattle.std.specs.Prelude.{ℕ, Bool, List, [], ◌∷◌, map}
use Rattle.std.proofs.Math.Option.{Option, none, some}
use Rattle.text.specs.Text.{Bytes}
use Rattle.text.specs.Field.{given}
use Rattle.algebra.specs.Tree.{Pattern, join, values}
use Rattle.algebra.specs.Query.{Value, BindingSet}
use Rattle.algebra.specs.Reader.{Outcome as Reading}
use Rattle.algebra.specs.Texts.{read_sets}
use Rattle.algebra.specs.Given.{read_given_tree}
use Rattle.algebra.specs.Layout.{layout}
use Rattle.answers.specs.Outcome.{Outcome, written, then, refused_unless}
use Rattle.scoping.specs.Premises.{columns_at, inside}
use Rattle.scoping.specs.Sets.{all}
use Rattle.merging.specs.Request.{position}
use Rattle.merging.specs.Negate.{modify_outermost_projection}
use Rattle.negating.specs.Projections.{outermost_projection}
use Rattle.filtering.specs.IfFound.{if_found}
use Rattle.filtering.specs.Values.{ground_term, ground_term_from_datavalue}

-- ---- the tree

-- no bytes where there are none; a value that has no cell is refused before it is written
abbrev pub or_none : Option Bytes → Bytes
or_none none = []
or_none (some b) = b

abbrev pub cell_of : Value → Bytes
cell_of v = or_none (ground_term_from_datavalue v)

-- bindings_set.positions()
abbrev pub positions_of : BindingSet → List ℕ
positions_of x = map position x.positions

-- bound_variables: variables[*idx] for each position
unfoldable pub bound_variables : List Bytes → BindingSet → List Bytes
unfolding columns_at position
bound_variables cs x = columns_at cs (positions_of x)

-- GraphPattern::Values of one set
unfoldable pub values_of : List Bytes → BindingSet → Pattern
unfolding bound_variables ground_term
values_of cs x = values (bound_variables cs x) (map (map cell_of) x.rows)

-- a join with the Values of each set, one after the other: the inner pattern stands innermost
unfoldable pub joined_with_values : List Bytes → Pattern → List BindingSet → Pattern
unfolding values_of
joined_with_values cs previous [] = previous
joined_with_values cs previous (x ∷ xs) = joined_with_values cs (join previous (values_of cs x)) xs

-- pattern_with_bindings: without sets a copy
unfoldable pub pattern_with_bindings : Pattern → List BindingSet → Pattern
unfolding modify_outermost_projection joined_with_values
pattern_with_bindings p [] = p
pattern_with_bindings p (x ∷ xs) = modify_outermost_projection (λ cs inner. joined_with_values cs inner (x ∷ xs)) p

-- ---- the call

-- every position of every set is one of the columns'
unfoldable pub positions_inside : List Bytes → List BindingSet → Bool
unfolding all inside position
positions_inside cs xs = all (λ x. inside cs (positions_of x)) xs

-- every value of every row of every set becomes a cell
unfoldable pub values_usable : List BindingSet → Bool
unfolding all ground_term
values_usable xs = all (λ x. all (all (λ v. given (ground_term_from_datavalue v))) x.rows) xs

-- of a tree as it was read: all positions before any value
abbrev pub bindings_read : Reading Pattern → Bytes → Outcome
bindings_read tree sets =
    then tree λ p.
    then (read_sets sets) λ xs.
    refused_unless 3 (if_found (outermost_projection p) λ cs. positions_inside cs xs)
    (refused_unless 7 (if_found (outermost_projection p) λ cs. values_usable xs)
    (written (layout (pattern_with_bindings p xs))))

-- docs/SPECIFICATION.md, "Operation by operation", bindings, of given texts
unfoldable pub bindings_outcome : Bytes → Bytes → Outcome
unfolding read_given_tree read_sets outermost_projection positions_inside values_usable pattern_with_bindings layout
bindings_outcome tree sets = bindings_read (read_given_tree tree) sets
