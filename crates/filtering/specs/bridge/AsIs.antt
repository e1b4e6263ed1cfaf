-- Bindings, filters and the list of those not placed on a tree's text as it stands, as the code proves them behind the test for an empty file. Assumes nothing.
use Rattle.std.specs.Prelude.{ℕ, List}
use Rattle.text.specs.Text.{Bytes}
use Rattle.algebra.specs.Layout.{layout}
use Rattle.algebra.specs.Texts.{read_tree, read_sets, read_filters}
use Rattle.answers.specs.Outcome.{Outcome}
use Rattle.scoping.specs.Sets.{all}
use Rattle.negating.specs.Projections.{outermost_projection}
use Rattle.filtering.specs.Bindings.{pattern_with_bindings, positions_inside, values_usable, bindings_read}
use Rattle.filtering.specs.Filters.{pattern_with_filters, references_inside, filters_read}
use Rattle.filtering.specs.NotPlaced.{not_placed, not_placed_read}

unfoldable pub bindings_as_is : Bytes → Bytes → Outcome
unfolding read_tree read_sets outermost_projection positions_inside values_usable pattern_with_bindings layout
bindings_as_is tree sets = bindings_read (read_tree tree) sets

unfoldable pub filters_as_is : Bytes → Bytes → Outcome
unfolding read_tree read_filters outermost_projection all references_inside pattern_with_filters layout
filters_as_is tree filters = filters_read (read_tree tree) filters

unfoldable pub not_placed_as_is : Bytes → Bytes → List ℕ
unfolding read_tree read_filters outermost_projection not_placed
not_placed_as_is tree filters = not_placed_read (read_tree tree) filters
