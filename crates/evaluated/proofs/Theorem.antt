-- Evaluating what a merge writes prints demand 3's sum. Assumes nothing.
-- The statements cite specs/Merged.antt (what is printed), specs/Demand3.antt of demand3 (the premises), specs/Merge.antt and specs/Asked.antt of merging.
use mathlib.Core.Path.{◌≡◌, refl, sym, ◌∙◌, ap}
use mathlib.Core.List.{List}
use Rattle.text.specs.Text.{Bytes}
use Rattle.algebra.specs.Tree.{Triple, Pattern}
use Rattle.algebra.specs.Query.{Query}
use Rattle.algebra.specs.Layout.{layout}
use Rattle.algebra.specs.Reader.{reads}
use Rattle.algebra.specs.Given.{read_given_tree, read_given_query}
use Rattle.algebra.specs.Bounded.{layout_query}
use Rattle.answers.specs.Outcome.{written}
use Rattle.answers.proofs.Answers.{bytes_of}
use Rattle.merging.specs.Request.{tree, Request, request}
use Rattle.merging.specs.Merge.{merge_project_patterns, merge_patterns_outcome, mergeable, over, merge_queries_outcome}
use Rattle.merging.specs.Asked.{Lists, Trees, query_of, Queries, behind_head}
use Rattle.merging.proofs.Given.{then-written, test-written, merge-written, lists-read, head-is}
use Rattle.merging.proofs.Others.{query-over}
use Rattle.merging.proofs.TreeRead.{tree-read, query-read}
use Rattle.demand3.specs.Demand3.{Premises}
use Rattle.evaluating.specs.Triples.{read_triples}
use Rattle.evaluated.specs.Merged.{Evaluated}
use Rattle.evaluated.proofs.MergedEvaluated.{sum-evaluated}

-- where merge patterns writes bytes, under demand 3's premises, evaluating them over any triples prints the table in which each row stands as often as demand 3's sum over the two single answers says
pub merge-evaluated : (left right pairs leftConstants rightConstants b triples : Bytes) (g : List Triple)
    → merge_patterns_outcome left right pairs leftConstants rightConstants ≡ written b → read_triples triples ≡ reads g
    → (m : Request) × Trees left right m × Lists pairs leftConstants rightConstants m × (Premises m → Evaluated m g b triples)
unfolding merge_patterns_outcome
merge-evaluated left right pairs leftConstants rightConstants b triples g e h =
    let x = then-written (read_given_tree left) _ b e in
    let y = then-written (read_given_tree right) _ b x.2 in
    let z = lists-read pairs leftConstants rightConstants _ b y.2 in
    let w = merge-written x.0 y.0 z.joins z.left_constants z.right_constants (λ t. written (layout t)) b z.gives in
    let m : Request = request w.left w.right z.joins z.left_constants z.right_constants in
    let l : read_given_tree left ≡ reads (tree w.left) = x.1 ∙ ap reads w.left_is in
    let r : read_given_tree right ≡ reads (tree w.right) = y.1 ∙ ap reads w.right_is in (
      m,
      record { left-tree = l; right-tree = r },
      z.says w.left w.right,
      λ s. sum-evaluated m pairs leftConstants rightConstants b triples g (tree-read left w.left l) (tree-read right w.right r) (z.says w.left w.right) w.all-inside w.none-twice (bytes_of _ b w.gives) h s,
    )

-- the same for merge queries, of the text behind the head line
pub merge-queries-evaluated : (left right pairs leftConstants rightConstants b triples : Bytes) (g : List Triple)
    → merge_queries_outcome left right pairs leftConstants rightConstants ≡ written b → read_triples triples ≡ reads g
    → (m : Request) × (kind dataset base text : Bytes) × Queries left right kind dataset base m × Lists pairs leftConstants rightConstants m
    × (b ≡ behind_head kind dataset base text) × (Premises m → Evaluated m g text triples)
unfolding merge_queries_outcome
merge-queries-evaluated left right pairs leftConstants rightConstants b triples g e f =
    let x = then-written (read_given_query left) _ b e in
    let y = then-written (read_given_query right) _ b x.2 in
    let z = lists-read pairs leftConstants rightConstants _ b y.2 in
    let h = test-written 5 (mergeable x.0 y.0) _ b z.gives in
    let a : Query = x.0 in
    let w = merge-written a.tree y.0.tree z.joins z.left_constants z.right_constants (λ t. written (layout_query (over a t))) b h.1 in
    let m : Request = request w.left w.right z.joins z.left_constants z.right_constants in
    let l : read_given_query left ≡ reads (query_of a.kind a.dataset a.base (tree w.left)) = x.1 ∙ ap (λ (p : Pattern). reads (over a p)) w.left_is in
    let r : read_given_query right ≡ reads (query_of a.kind a.dataset a.base (tree w.right)) = y.1 ∙ ap reads (head-is a y.0 h.0) ∙ ap (λ (p : Pattern). reads (over a p)) w.right_is in
    let t : b ≡ behind_head a.kind a.dataset a.base (layout (merge_project_patterns m)) = sym (bytes_of (layout_query (over a (merge_project_patterns m))) b w.gives) ∙ query-over a (merge_project_patterns m) in (
      m,
      a.kind,
      a.dataset,
      a.base,
      layout (merge_project_patterns m),
      record { left_query = l; right_query = r },
      z.says w.left w.right,
      t,
      λ s. sum-evaluated m pairs leftConstants rightConstants (layout (merge_project_patterns m)) triples g (query-read left a.kind a.dataset a.base w.left l) (query-read right a.kind a.dataset a.base w.right r) (z.says w.left w.right) w.all-inside w.none-twice refl f s,
    )
