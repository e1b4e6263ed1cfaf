-- An empty file on one side of a merge, without pairs and constants, leaves each row's count as it was. Assumes nothing.
use mathlib.Core.Path.{◌≡◌}
use mathlib.Core.Bool.{true}
use mathlib.Core.List.{[]}
use Rattle.text.specs.Text.{Bytes, split, lines_in, lines_of}
use Rattle.text.proofs.Basics.{same_refl}
use Rattle.algebra.specs.Layout.{layout}
use Rattle.algebra.specs.Bounded.{layout_query}
use Rattle.algebra.specs.Reader.{reads, several, read_text}
use Rattle.algebra.specs.Texts.{read_pairs}
use Rattle.algebra.specs.Given.{empty_tree, read_given_tree, read_given_query}
use Rattle.algebra.proofs.Given.{empty-reads}
use Rattle.answers.specs.Outcome.{written}
use Rattle.scoping.specs.Label.{prefix_l, prefix_r}
use Rattle.scoping.specs.Premises.{inside, different_positions}
use Rattle.scoping.specs.Sets.{all}
use Rattle.merging.specs.Request.{Projection, tree, as_project, read_joins, read_constants, request, all_inside}
use Rattle.merging.specs.Merge.{merge_project_patterns, merge_sides, merge_trees, merge_patterns_outcome, is_select_or_ask, mergeable, merge_queries_outcome}
use Rattle.merging.specs.Asked.{query_of, behind_head}
use Rattle.merging.proofs.TreeRead.{tree-read, query-read}
use Rattle.demand3.specs.Demand3.{Supposed}
use Rattle.demand3.specs.Empty.{empty_projection, Kept}
use Rattle.demand3.proofs.Once.{merge-patterns-counts-read, merge-queries-counts-read}
use Rattle.demand3.proofs.Nothing.{no-lists, kept-right, kept-left}

-- ---- the calls

-- merged with a tree's text of no bytes on the right
pub empty_right : (left b : Bytes) (x : Projection) → read_given_tree left ≡ reads (tree x) → Supposed x → merge_patterns_outcome left [] [] [] [] ≡ written b → Kept prefix_l x b
empty_right left b x e s w =
    kept-right x (tree-read left x e) s b (merge-patterns-counts-read left [] [] [] [] b (request x empty_projection [] [] []) (record { left-tree = e; right-tree = empty-reads }) (no-lists x empty_projection) w)

-- and on the left
pub empty_left : (right b : Bytes) (x : Projection) → read_given_tree right ≡ reads (tree x) → Supposed x → merge_patterns_outcome [] right [] [] [] ≡ written b → Kept prefix_r x b
empty_left right b x e s w =
    kept-left x (tree-read right x e) s b (merge-patterns-counts-read [] right [] [] [] b (request empty_projection x [] [] []) (record { left-tree = empty-reads; right-tree = e }) (no-lists empty_projection x) w)

module _ (kind dataset base : Bytes) (x : Projection) (s : Supposed x) where
  -- a query merged with one whose head line stands alone, on the right
  pub empty-query-right : (left right b : Bytes) → read_given_query left ≡ reads (query_of kind dataset base (tree x)) → read_given_query right ≡ reads (query_of kind dataset base empty_tree)
      → merge_queries_outcome left right [] [] [] ≡ written b → (text : Bytes) × (b ≡ behind_head kind dataset base text) × Kept prefix_l x text
  empty-query-right left right b e f w =
      let c = merge-queries-counts-read left right [] [] [] b kind dataset base (request x empty_projection [] [] []) (record { left_query = e; right_query = f }) (no-lists x empty_projection) w in
      (c.0, c.1, kept-right x (query-read left kind dataset base x e) s c.0 c.2)

  -- and on the left
  pub empty-query-left : (left right b : Bytes) → read_given_query left ≡ reads (query_of kind dataset base empty_tree) → read_given_query right ≡ reads (query_of kind dataset base (tree x))
      → merge_queries_outcome left right [] [] [] ≡ written b → (text : Bytes) × (b ≡ behind_head kind dataset base text) × Kept prefix_r x text
  empty-query-left left right b e f w =
      let c = merge-queries-counts-read left right [] [] [] b kind dataset base (request empty_projection x [] [] []) (record { left_query = e; right_query = f }) (no-lists empty_projection x) w in
      (c.0, c.1, kept-left x (query-read right kind dataset base x f) s c.0 c.2)

-- ---- such a merge is written

pub empty-right-written : (left : Bytes) (x : Projection) → read_given_tree left ≡ reads (tree x) → merge_patterns_outcome left [] [] [] [] ≡ written (layout (merge_project_patterns (request x empty_projection [] [] [])))
unfolding merge_patterns_outcome merge_trees merge_sides merge_project_patterns as_project all_inside inside all different_positions read_joins read_constants read_pairs read_text several lines_of lines_in split
empty-right-written left x e = rw (e, empty-reads)

pub empty-left-written : (right : Bytes) (x : Projection) → read_given_tree right ≡ reads (tree x) → merge_patterns_outcome [] right [] [] [] ≡ written (layout (merge_project_patterns (request empty_projection x [] [] [])))
unfolding merge_patterns_outcome merge_trees merge_sides merge_project_patterns as_project all_inside inside all different_positions read_joins read_constants read_pairs read_text several lines_of lines_in split
empty-left-written right x e = rw (empty-reads, e)

-- a select or ask that has no more than its head line merges with every such query of the same head
module _ (left right kind dataset base : Bytes) (x : Projection) (k : is_select_or_ask kind ≡ true) where
  pub empty-query-right-written : read_given_query left ≡ reads (query_of kind dataset base (tree x)) → read_given_query right ≡ reads (query_of kind dataset base empty_tree)
      → merge_queries_outcome left right [] [] [] ≡ written (layout_query (query_of kind dataset base (merge_project_patterns (request x empty_projection [] [] []))))
  unfolding merge_queries_outcome mergeable merge_trees merge_sides merge_project_patterns as_project all_inside inside all different_positions read_joins read_constants read_pairs read_text several lines_of lines_in split
  empty-query-right-written e f = rw (e, f, k, same_refl kind, same_refl dataset, same_refl base)

  pub empty-query-left-written : read_given_query left ≡ reads (query_of kind dataset base empty_tree) → read_given_query right ≡ reads (query_of kind dataset base (tree x))
      → merge_queries_outcome left right [] [] [] ≡ written (layout_query (query_of kind dataset base (merge_project_patterns (request empty_projection x [] [] []))))
  unfolding merge_queries_outcome mergeable merge_trees merge_sides merge_project_patterns as_project all_inside inside all different_positions read_joins read_constants read_pairs read_text several lines_of lines_in split
  empty-query-left-written e f = rw (e, f, k, same_refl kind, same_refl dataset, same_refl base)

-- ---- written, and counts kept

pub empty-right-kept : (left : Bytes) (x : Projection) → read_given_tree left ≡ reads (tree x) → Supposed x → (b : Bytes) × (merge_patterns_outcome left [] [] [] [] ≡ written b) × Kept prefix_l x b
empty-right-kept left x e s = let w = empty-right-written left x e in (_, w, empty_right left _ x e s w)

pub empty-left-kept : (right : Bytes) (x : Projection) → read_given_tree right ≡ reads (tree x) → Supposed x → (b : Bytes) × (merge_patterns_outcome [] right [] [] [] ≡ written b) × Kept prefix_r x b
empty-left-kept right x e s = let w = empty-left-written right x e in (_, w, empty_left right _ x e s w)

module _ (left right kind dataset base : Bytes) (x : Projection) (s : Supposed x) (k : is_select_or_ask kind ≡ true) where
  pub empty-query-right-kept : read_given_query left ≡ reads (query_of kind dataset base (tree x)) → read_given_query right ≡ reads (query_of kind dataset base empty_tree)
      → (b text : Bytes) × (merge_queries_outcome left right [] [] [] ≡ written b) × (b ≡ behind_head kind dataset base text) × Kept prefix_l x text
  empty-query-right-kept e f = let w = empty-query-right-written left right kind dataset base x k e f in let c = empty-query-right kind dataset base x s left right _ e f w in (_, c.0, w, c.1, c.2)

  pub empty-query-left-kept : read_given_query left ≡ reads (query_of kind dataset base empty_tree) → read_given_query right ≡ reads (query_of kind dataset base (tree x))
      → (b text : Bytes) × (merge_queries_outcome left right [] [] [] ≡ written b) × (b ≡ behind_head kind dataset base text) × Kept prefix_r x text
  empty-query-left-kept e f = let w = empty-query-left-written left right kind dataset base x k e f in let c = empty-query-left kind dataset base x s left right _ e f w in (_, c.0, w, c.1, c.2)
