-- The call push constants: nemo's push_constants and push_constants_in_project_pattern (queries.rs). Assumes nothing.
use Rattle.std.specs.Prelude.{cond, List, []}
use Rattle.std.proofs.Math.Option.{Option, none, some}
use Rattle.text.specs.Text.{Bytes}
use Rattle.algebra.specs.Tree.{Pattern, project}
use Rattle.algebra.specs.Query.{Query}
use Rattle.algebra.specs.Given.{read_given_query}
use Rattle.algebra.specs.Bounded.{layout_query}
use Rattle.answers.specs.Outcome.{Outcome, written, then, refused_unless}
use Rattle.scoping.specs.Label.{prefix_v}
use Rattle.scoping.specs.Premises.{inside}
use Rattle.merging.specs.Sides.{Constant, Side, renamed_pattern, free_columns, standardized}
use Rattle.merging.specs.Request.{Projection, as_project, read_constants, positions}
use Rattle.merging.specs.Merge.{is_select_or_ask, over}

-- standardize_variables("v", variables_in_pattern(pattern), []): prefix v and no join variables
abbrev pub only_side : Projection → List Constant → Side
only_side x ks = standardized prefix_v x.columns x.inner [] ks

-- push_constants_in_project_pattern, for a project
unfoldable pub push_constants_in_project_pattern : Projection → List Constant → Pattern
unfolding free_columns renamed_pattern
push_constants_in_project_pattern x ks = project (free_columns (only_side x ks)) (renamed_pattern (only_side x ks))

-- a copy where the root isn't project; else 3 for a position outside
unfoldable pub pushed : Query → List Constant → Option Projection → Outcome
unfolding inside push_constants_in_project_pattern layout_query
pushed q ks none = written (layout_query q)
pushed q ks (some x) = refused_unless 3 (inside x.columns (positions ks)) (written (layout_query (over q (push_constants_in_project_pattern x ks))))

-- push_constants: a construct or describe is copied
unfoldable pub push_constants : Query → List Constant → Outcome
unfolding pushed as_project is_select_or_ask
push_constants q ks = cond (is_select_or_ask q.kind) (pushed q ks (as_project q.tree)) (written (layout_query q))

-- docs/SPECIFICATION.md, "Operation by operation", push constants
unfoldable pub push_constants_outcome : Bytes → Bytes → Outcome
unfolding read_given_query read_constants push_constants
push_constants_outcome query constants =
    then (read_given_query query) λ q.
    then (read_constants constants) λ ks.
    push_constants q ks
