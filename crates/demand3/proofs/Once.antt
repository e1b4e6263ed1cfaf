-- Texts say one request only, so what is promised of some request is promised of each. Assumes nothing.
use mathlib.Core.Path.{◌≡◌, ap, subst, ◌∙◌}
use Rattle.text.specs.Text.{Bytes}
use Rattle.algebra.specs.Reader.{Outcome as Reading, reads}
use Rattle.algebra.specs.Given.{read_given_tree, read_given_query}
use Rattle.answers.specs.Outcome.{written}
use Rattle.merging.specs.Request.{Projection, tree, read_joins, read_constants, Request}
use Rattle.merging.specs.Merge.{merge_patterns_outcome, merge_queries_outcome}
use Rattle.merging.specs.Asked.{Trees, Lists, query_of, Queries, behind_head}
use Rattle.demand3.specs.Demand3.{Counted}
use Rattle.demand3.proofs.Theorem.{merge-patterns-counts, merge-queries-counts}

pub read-once : {A : Type 0} (o : Reading A) (a b : A) → o ≡ reads a → o ≡ reads b → a ≡ b
read-once o a b p q = cc

tree-once : (x y : Projection) → tree x ≡ tree y → x ≡ y
tree-once x y e =
    let c : x.columns ≡ y.columns = cc in
    let d : x.inner ≡ y.inner = cc in
    λ i. record { columns = c i; inner = d i }

pub record Heads (kind dataset base kind' dataset' base' : Bytes) (x y : Projection) : Type 0 where
  pub kinds : kind ≡ kind'
  pub datasets : dataset ≡ dataset'
  pub bases : base ≡ base'
  pub trees : x ≡ y

pub query-once : (kind dataset base kind' dataset' base' : Bytes) (x y : Projection) → query_of kind dataset base (tree x) ≡ query_of kind' dataset' base' (tree y) → Heads kind dataset base kind' dataset' base' x y
query-once kind dataset base kind' dataset' base' x y e = record { kinds = ap (λ q. q.kind) e; datasets = ap (λ q. q.dataset) e; bases = ap (λ q. q.base) e; trees = tree-once x y (ap (λ q. q.tree) e) }

module _ (left right pairs leftConstants rightConstants : Bytes) where
  request-once : (m n : Request) → Lists pairs leftConstants rightConstants m → Lists pairs leftConstants rightConstants n → m.left ≡ n.left → m.right ≡ n.right → m ≡ n
  request-once m n a b l r =
      let j = read-once (read_joins pairs) m.joins n.joins a.joins b.joins in
      let k = read-once (read_constants leftConstants) m.left_constants n.left_constants a.left_constants b.left_constants in
      let c = read-once (read_constants rightConstants) m.right_constants n.right_constants a.right_constants b.right_constants in
      λ i. record { left = l i; right = r i; joins = j i; left_constants = k i; right_constants = c i }

  -- what the five texts say
  pub asked-once : (m n : Request) → Trees left right m → Lists pairs leftConstants rightConstants m → Trees left right n → Lists pairs leftConstants rightConstants n → m ≡ n
  asked-once m n s a t b = request-once m n a b
      (tree-once m.left n.left (read-once (read_given_tree left) (tree m.left) (tree n.left) s.left-tree t.left-tree))
      (tree-once m.right n.right (read-once (read_given_tree right) (tree m.right) (tree n.right) s.right-tree t.right-tree))

  -- demand 3 for the trees and lists that the texts are read as
  pub merge-patterns-counts-read : (b : Bytes) (m : Request) → Trees left right m → Lists pairs leftConstants rightConstants m → merge_patterns_outcome left right pairs leftConstants rightConstants ≡ written b → Counted m b
  merge-patterns-counts-read b m s a e =
      let x = merge-patterns-counts left right pairs leftConstants rightConstants b e in
      subst (λ (n : Request). Counted n b) (asked-once x.0 m x.1 x.2 s a) x.3

  -- the same for queries
  pub merge-queries-counts-read : (b kind dataset base : Bytes) (m : Request) → Queries left right kind dataset base m → Lists pairs leftConstants rightConstants m → merge_queries_outcome left right pairs leftConstants rightConstants ≡ written b
      → (text : Bytes) × (b ≡ behind_head kind dataset base text) × Counted m text
  merge-queries-counts-read b kind dataset base m s a e =
      let x = merge-queries-counts left right pairs leftConstants rightConstants b e in
      let l = query-once x.1 x.2 x.3 kind dataset base x.0.left m.left (read-once (read_given_query left) _ _ x.5.left_query s.left_query) in
      let r = query-once x.1 x.2 x.3 kind dataset base x.0.right m.right (read-once (read_given_query right) _ _ x.5.right_query s.right_query) in
      (x.4, x.7 ∙ (λ i. behind_head (l.kinds i) (l.datasets i) (l.bases i) x.4), subst (λ (n : Request). Counted n x.4) (request-once x.0 m x.6 a l.trees r.trees) x.8)
