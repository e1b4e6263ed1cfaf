-- The call filters: nemo's pattern_with_filters (queries.rs). Assumes nothing.
use Rattle.std.specs.Prelude.{ℕ, Bool, true, cond, ◌&&◌, List, [], ◌∷◌, length, ltb}
use Rattle.std.proofs.Math.Option.{Option, none, some}
use Rattle.text.specs.Text.{Bytes}
use Rattle.algebra.specs.Tree.{AND, Pattern, filter, Expression, apply, eend, econs}
use Rattle.algebra.specs.Query.{Filter, leaf, ref, function, Filters, fend, fcons}
use Rattle.algebra.specs.Reader.{Outcome as Reading}
use Rattle.algebra.specs.Texts.{read_filters}
use Rattle.algebra.specs.Given.{read_given_tree}
use Rattle.algebra.specs.Layout.{layout}
use Rattle.answers.specs.Outcome.{Outcome, written, then, refused_unless}
use Rattle.scoping.specs.Sets.{all}
use Rattle.merging.specs.Request.{position}
use Rattle.merging.specs.Negate.{modify_outermost_projection}
use Rattle.negating.specs.Projections.{outermost_projection}
use Rattle.filtering.specs.IfFound.{if_found}
use Rattle.filtering.specs.Functions.{try_expression_from_tree, is_constant_true}

-- ---- the tree

-- the expression of a filter that is placed: "!pattern.filter_function().is_constant_true() && let Some(expression) = try_expression_from_tree(..)"
unfoldable pub placed_expression : List Bytes → Filter → Option Expression
unfolding try_expression_from_tree is_constant_true
placed_expression cs f = cond (is_constant_true f) none (try_expression_from_tree cs f)

abbrev pub and_those : {A : Type 0} → Option A → List A → List A
and_those none xs = xs
and_those (some x) xs = x ∷ xs

-- expressions
unfoldable pub expressions : List Bytes → List Filter → List Expression
unfolding placed_expression
expressions cs [] = []
expressions cs (f ∷ fs) = and_those (placed_expression cs f) (expressions cs fs)

-- Expression::And
abbrev pub both : Expression → Expression → Expression
both lhs rhs = apply AND (econs lhs (econs rhs eend))

-- reduce: nested to the left
unfoldable pub conjunction : Expression → List Expression → Expression
conjunction e [] = e
conjunction e (d ∷ ds) = conjunction (both e d) ds

-- the inner pattern under the conjunction; as it is where there is no expression
unfoldable pub filtered : List Expression → Pattern → Pattern
unfolding conjunction
filtered [] p = p
filtered (e ∷ es) p = filter p (conjunction e es)

-- the pattern, and the filters that remain
pub record WithFilters : Type 0 where
  pub pattern : Pattern
  pub remaining : List Filter

-- pattern_with_filters: its list of remaining filters is always empty; what the call lists is `notPlaced`
unfoldable pub pattern_with_filters : Pattern → List Filter → WithFilters
unfolding modify_outermost_projection filtered expressions
pattern_with_filters p fs = record { pattern = modify_outermost_projection (λ cs inner. filtered (expressions cs fs) inner) p; remaining = [] }

-- ---- the call

-- every reference of a filter is below the width, also in a part that is not expressed
unfoldable mutual
  unfolding position

  pub references_inside : List Bytes → Filter → Bool
  references_inside cs (leaf v) = true
  references_inside cs (ref k) = ltb (position k) (length cs)
  references_inside cs (function w n fs) = parts_inside cs fs

  pub parts_inside : List Bytes → Filters → Bool
  parts_inside cs fend = true
  parts_inside cs (fcons f fs) = references_inside cs f && parts_inside cs fs

-- of a tree as it was read
abbrev pub filters_read : Reading Pattern → Bytes → Outcome
filters_read tree filters =
    then tree λ p.
    then (read_filters filters) λ fs.
    refused_unless 3 (if_found (outermost_projection p) λ cs. all (references_inside cs) fs)
    (written (layout (pattern_with_filters p fs).pattern))

-- docs/SPECIFICATION.md, "Operation by operation", filters, of given texts
unfoldable pub filters_outcome : Bytes → Bytes → Outcome
unfolding read_given_tree read_filters outermost_projection all references_inside pattern_with_filters layout
filters_outcome tree filters = filters_read (read_given_tree tree) filters
