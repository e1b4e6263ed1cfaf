-- Demand 3 on bytes: where a merge is written, the bytes are one tree's, and each row's count in its answer is demand 3's sum. Assumes nothing.
-- The statements cite specs/Merge.antt (the outcomes) and specs/Demand3.antt (what the texts ask for, the premises, the promise).
use mathlib.Core.Path.{◌≡◌, refl, sym, ap, ◌∙◌}
use Rattle.text.specs.Text.{Bytes}
use Rattle.algebra.specs.Tree.{Pattern}
use Rattle.algebra.specs.Query.{Query}
use Rattle.algebra.specs.Reader.{reads}
use Rattle.algebra.specs.Layout.{layout}
use Rattle.algebra.specs.Bounded.{layout_query}
use Rattle.algebra.specs.Given.{read_given_tree, read_given_query}
use Rattle.answers.specs.Outcome.{written}
use Rattle.answers.proofs.Answers.{bytes_of}
use Rattle.merging.specs.Request.{tree, Request, request}
use Rattle.merging.specs.Merge.{merge_project_patterns, merge_patterns_outcome, mergeable, over, merge_queries_outcome}
use Rattle.merging.specs.Asked.{Lists, Trees, query_of, Queries, behind_head}
use Rattle.demand3.specs.Demand3.{Counted}
use Rattle.merging.proofs.Given.{then-written, test-written, merge-written, lists-read, head-is}
use Rattle.merging.proofs.Others.{query-over}
use Rattle.merging.proofs.TreeRead.{tree-read, query-read}
use Rattle.demand3.proofs.Promise.{all-promised}

-- ---- demand 3

-- where merge patterns writes bytes, they are those of one tree, and under demand 3's premises each row stands in its answer as often as its sum says
pub merge-patterns-counts : (left right pairs leftConstants rightConstants b : Bytes)
    → merge_patterns_outcome left right pairs leftConstants rightConstants ≡ written b
    → (m : Request) × Trees left right m × Lists pairs leftConstants rightConstants m × Counted m b
unfolding merge_patterns_outcome
merge-patterns-counts left right pairs leftConstants rightConstants b e =
    let x = then-written (read_given_tree left) _ b e in
    let y = then-written (read_given_tree right) _ b x.2 in
    let z = lists-read pairs leftConstants rightConstants _ b y.2 in
    let w = merge-written x.0 y.0 z.joins z.left_constants z.right_constants (λ t. written (layout t)) b z.gives in
    let m : Request = request w.left w.right z.joins z.left_constants z.right_constants in
    let l : read_given_tree left ≡ reads (tree w.left) = x.1 ∙ ap reads w.left_is in
    let r : read_given_tree right ≡ reads (tree w.right) = y.1 ∙ ap reads w.right_is in
    let t : layout (merge_project_patterns m) ≡ b = bytes_of _ b w.gives in (
      m,
      record { left-tree = l; right-tree = r },
      z.says w.left w.right,
      all-promised m pairs leftConstants rightConstants (tree-read left w.left l) (tree-read right w.right r) (z.says w.left w.right) w.all-inside w.none-twice b t,
    )

-- ---- the same for queries

-- where merge queries writes bytes, they are a head line and those of one tree, and under demand 3's premises each row stands in its answer as often as its sum says
pub merge-queries-counts : (left right pairs leftConstants rightConstants b : Bytes)
    → merge_queries_outcome left right pairs leftConstants rightConstants ≡ written b
    → (m : Request) × (kind dataset base text : Bytes) × Queries left right kind dataset base m × Lists pairs leftConstants rightConstants m
    × (b ≡ behind_head kind dataset base text) × Counted m text
unfolding merge_queries_outcome
merge-queries-counts left right pairs leftConstants rightConstants b e =
    let x = then-written (read_given_query left) _ b e in
    let y = then-written (read_given_query right) _ b x.2 in
    let z = lists-read pairs leftConstants rightConstants _ b y.2 in
    let h = test-written 5 (mergeable x.0 y.0) _ b z.gives in
    let a : Query = x.0 in
    let w = merge-written a.tree y.0.tree z.joins z.left_constants z.right_constants (λ t. written (layout_query (over a t))) b h.1 in
    let m : Request = request w.left w.right z.joins z.left_constants z.right_constants in
    let l : read_given_query left ≡ reads (query_of a.kind a.dataset a.base (tree w.left)) = x.1 ∙ ap (λ (p : Pattern). reads (over a p)) w.left_is in
    let r : read_given_query right ≡ reads (query_of a.kind a.dataset a.base (tree w.right)) = y.1 ∙ ap reads (head-is a y.0 h.0) ∙ ap (λ (p : Pattern). reads (over a p)) w.right_is in
    let t : b ≡ behind_head a.kind a.dataset a.base (layout (merge_project_patterns m)) = sym (bytes_of (layout_query (over a (merge_project_patterns m))) b w.gives) ∙ query-over a (merge_project_patterns m) in (
      m,
      a.kind,
      a.dataset,
      a.base,
      layout (merge_project_patterns m),
      record { left_query = l; right_query = r },
      z.says w.left w.right,
      t,
      all-promised m pairs leftConstants rightConstants (query-read left a.kind a.dataset a.base w.left l) (query-read right a.kind a.dataset a.base w.right r) (z.says w.left w.right) w.all-inside w.none-twice (layout (merge_project_patterns m)) refl,
    )
