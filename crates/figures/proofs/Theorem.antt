-- The figures of each call's answer, from the texts that were read; no figure needs the tree to be written. Assumes nothing.
-- Bytes are those of the answer: code measures them. The statements cite merging's outcomes and specs/Figures.antt; specs/bridge/Parts.antt says the sums.
use Prim.Native.Nat.{ℕ, ◌≤◌}
use mathlib.Core.Path.{◌≡◌, refl, ◌∙◌, ap, subst}
use mathlib.Core.Bool.{Bool, true, false, cond}
use mathlib.Core.List.{List, []}
use mathlib.Core.Option.{Option, none, some}
use lib.ListN.{length}
use Rattle.text.specs.Text.{Bytes}
use Rattle.algebra.specs.Tree.{Pattern}
use Rattle.algebra.specs.Query.{Query}
use Rattle.algebra.specs.Layout.{layout}
use Rattle.algebra.specs.Bounded.{layout_query}
use Rattle.algebra.specs.Reader.{reads}
use Rattle.algebra.specs.Given.{read_given_tree, read_given_query}
use Rattle.algebra.specs.Valid.{Valid, ValidQuery}
use Rattle.algebra.proofs.Given.{query-given}
use Rattle.answers.specs.Outcome.{written}
use Rattle.scoping.specs.Numbering.{by_place}
use Rattle.scoping.specs.Premises.{inside}
use Rattle.merging.specs.Sides.{Pair, Constant, free_columns, merged_columns, merged}
use Rattle.merging.specs.Request.{Projection, tree, as_project, read_joins, read_constants, Request, request, left_side, right_side, positions}
use Rattle.merging.specs.Merge.{merge_project_patterns, merge_patterns_outcome, is_select_or_ask, mergeable, over, merge_queries_outcome}
use Rattle.merging.specs.Push.{only_side, push_constants_in_project_pattern, pushed, push_constants, push_constants_outcome}
use Rattle.merging.specs.Negate.{negate_project_pattern, negate_query, negate_outcome}
use Rattle.merging.specs.Without.{minus_sides, plain_request, without_queries_outcome}
use Rattle.merging.specs.Asked.{Lists, Trees, query_of, Queries}
use Rattle.merging.proofs.Given.{then-written, test-written, merge-written, without-written, lists-read, project-of, head-is}
use Rattle.merging.proofs.Lists.{Good, constants-good, no-constants, map-length}
use Rattle.merging.proofs.Written.{merged-valid, without-valid}
use Rattle.merging.proofs.TreeRead.{tree-read, query-read}
use Rattle.merging.proofs.SidesKnown.{left-known, right-known}
use Rattle.answers.proofs.Answers.{bytes_of}
use Rattle.merging.proofs.Others.{given-valid, given-names, pushed-valid, negated-valid}
use Rattle.figures.specs.Figures.{Figures, sized, tree_sizes, query_sizes}
use Rattle.figures.specs.bridge.Parts.{merged_figures, without_figures, pushed_figures, copied_figures, root_figures, query_pushed_figures, negated_figures, query_negated_figures, head_line}
use Rattle.figures.proofs.Parts.{merged-lines, merged-depth, without-lines, without-depth, pushed-lines, pushed-depth}
use Rattle.figures.proofs.Negated.{negated-lines, negated-depth, negated-columns}
use Rattle.figures.proofs.ReadBack.{tree-sized, query-sized}

-- ---- trees: the figures of what is made of them

pub merged-figures : (n : ℕ) (m : Request) → copied_figures n (merge_project_patterns m) ≡ merged_figures n m
unfolding merge_project_patterns merged as_project
merged-figures n m = λ i. record { bytes = n; lines = merged-lines m i; depth = merged-depth m i; columns = length (merged_columns (left_side m) (right_side m) m.joins) }

pub without-figures : (n : ℕ) (l r : Projection) (js : List Pair) → copied_figures n (minus_sides (left_side (plain_request l r js)) (right_side (plain_request l r js))) ≡ without_figures n (plain_request l r js)
unfolding minus_sides as_project
without-figures n l r js = λ i. record { bytes = n; lines = without-lines l r js i; depth = without-depth l r js i; columns = map-length (left_side (plain_request l r js)).name l.columns i }

pub pushed-figures : (n : ℕ) (x : Projection) (ks : List Constant) → copied_figures n (push_constants_in_project_pattern x ks) ≡ pushed_figures n x ks
unfolding push_constants_in_project_pattern as_project
pushed-figures n x ks = λ i. record { bytes = n; lines = pushed-lines x ks i; depth = pushed-depth x ks i; columns = length (free_columns (only_side x ks)) }

pub negated-figures : (n : ℕ) (p : Pattern) → copied_figures n (negate_project_pattern p) ≡ negated_figures n p
negated-figures n p = λ i. record { bytes = n; lines = negated-lines p i; depth = negated-depth p i; columns = negated-columns p i }

-- ---- queries

over-valid : (q : Query) (p : Pattern) → ValidQuery q → Valid p → ValidQuery (over q p)
unfolding ValidQuery
over-valid q p v w = (v.0, v.1, v.2, w)

query-valid : (s : Bytes) (q : Query) → read_given_query s ≡ reads q → ValidQuery q
query-valid s q e = (query-given s q e).valid

over_sized : (q : Query) (p : Pattern) (b : Bytes) (f : Figures) → ValidQuery q → Valid p → written (layout_query (over q p)) ≡ written b → copied_figures (length b) p ≡ f → query_sizes (written b) ≡ sized (head_line f)
over_sized q p b f v w e h =
    let t : layout_query (over q p) ≡ b = bytes_of (layout_query (over q p)) b e in
    subst (λ (s : Bytes). query_sizes (written s) ≡ sized (head_line (copied_figures (length s) p))) t (query-sized (over q p) (over-valid q p v w)) ∙ ap (λ (x : Figures). sized (head_line x)) h

-- ---- the five calls: where bytes are written, these are their figures

pub merge-patterns-sized : (left right pairs leftConstants rightConstants b : Bytes)
    → merge_patterns_outcome left right pairs leftConstants rightConstants ≡ written b
    → (m : Request) × Trees left right m × Lists pairs leftConstants rightConstants m × (tree_sizes (written b) ≡ sized (merged_figures (length b) m))
unfolding merge_patterns_outcome
merge-patterns-sized left right pairs leftConstants rightConstants b e =
    let x = then-written (read_given_tree left) _ b e in
    let y = then-written (read_given_tree right) _ b x.2 in
    let z = lists-read pairs leftConstants rightConstants _ b y.2 in
    let w = merge-written x.0 y.0 z.joins z.left_constants z.right_constants (λ t. written (layout t)) b z.gives in
    let m : Request = request w.left w.right z.joins z.left_constants z.right_constants in
    let l : read_given_tree left ≡ reads (tree w.left) = x.1 ∙ ap reads w.left_is in
    let r : read_given_tree right ≡ reads (tree w.right) = y.1 ∙ ap reads w.right_is in
    let says : Lists pairs leftConstants rightConstants m = z.says w.left w.right in
    let lr = tree-read left w.left l in
    let rr = tree-read right w.right r in
    let v : Valid (merge_project_patterns m) = merged-valid m (left-known m pairs leftConstants rightConstants lr rr says w.all-inside w.none-twice) (right-known m pairs leftConstants rightConstants lr rr says w.all-inside w.none-twice) in
    let t : layout (merge_project_patterns m) ≡ b = bytes_of (layout (merge_project_patterns m)) b w.gives in (
      m,
      record { left-tree = l; right-tree = r },
      says,
      subst (λ (s : Bytes). tree_sizes (written s) ≡ sized (copied_figures (length s) (merge_project_patterns m))) t (tree-sized (merge_project_patterns m) v) ∙ ap sized (merged-figures (length b) m),
    )

pub merge-queries-sized : (left right pairs leftConstants rightConstants b : Bytes)
    → merge_queries_outcome left right pairs leftConstants rightConstants ≡ written b
    → (m : Request) × (kind dataset base : Bytes) × Queries left right kind dataset base m × Lists pairs leftConstants rightConstants m × (query_sizes (written b) ≡ sized (head_line (merged_figures (length b) m)))
unfolding merge_queries_outcome
merge-queries-sized left right pairs leftConstants rightConstants b e =
    let x = then-written (read_given_query left) _ b e in
    let y = then-written (read_given_query right) _ b x.2 in
    let z = lists-read pairs leftConstants rightConstants _ b y.2 in
    let h = test-written 5 (mergeable x.0 y.0) _ b z.gives in
    let a : Query = x.0 in
    let w = merge-written a.tree y.0.tree z.joins z.left_constants z.right_constants (λ t. written (layout_query (over a t))) b h.1 in
    let m : Request = request w.left w.right z.joins z.left_constants z.right_constants in
    let l : read_given_query left ≡ reads (query_of a.kind a.dataset a.base (tree w.left)) = x.1 ∙ ap (λ (p : Pattern). reads (over a p)) w.left_is in
    let r : read_given_query right ≡ reads (query_of a.kind a.dataset a.base (tree w.right)) = y.1 ∙ ap reads (head-is a y.0 h.0) ∙ ap (λ (p : Pattern). reads (over a p)) w.right_is in
    let says : Lists pairs leftConstants rightConstants m = z.says w.left w.right in
    let lr = query-read left a.kind a.dataset a.base w.left l in
    let rr = query-read right a.kind a.dataset a.base w.right r in
    let v : Valid (merge_project_patterns m) = merged-valid m (left-known m pairs leftConstants rightConstants lr rr says w.all-inside w.none-twice) (right-known m pairs leftConstants rightConstants lr rr says w.all-inside w.none-twice) in (
      m,
      a.kind,
      a.dataset,
      a.base,
      record { left_query = l; right_query = r },
      says,
      over_sized a (merge_project_patterns m) b (merged_figures (length b) m) (query-valid left a x.1) v w.gives (merged-figures (length b) m),
    )

pub without-queries-sized : (left right pairs b : Bytes)
    → without_queries_outcome left right pairs ≡ written b
    → (l r : Projection) × (js : List Pair) × (kind dataset base : Bytes) × Queries left right kind dataset base (plain_request l r js) × (read_joins pairs ≡ reads js) × (query_sizes (written b) ≡ sized (head_line (without_figures (length b) (plain_request l r js))))
unfolding without_queries_outcome
without-queries-sized left right pairs b e =
    let x = then-written (read_given_query left) _ b e in
    let y = then-written (read_given_query right) _ b x.2 in
    let z = then-written (read_joins pairs) _ b y.2 in
    let h = test-written 5 (mergeable x.0 y.0) _ b z.2 in
    let a : Query = x.0 in
    let js = z.0 in
    let w = without-written a.tree y.0.tree js (λ t. written (layout_query (over a t))) b h.1 in
    let l = w.left in
    let r = w.right in
    let m = plain_request l r js in
    let lq : read_given_query left ≡ reads (query_of a.kind a.dataset a.base (tree l)) = x.1 ∙ ap (λ (p : Pattern). reads (over a p)) w.left_is in
    let rq : read_given_query right ≡ reads (query_of a.kind a.dataset a.base (tree r)) = y.1 ∙ ap reads (head-is a y.0 h.0) ∙ ap (λ (p : Pattern). reads (over a p)) w.right_is in
    let ls : Lists pairs [] [] m = record { joins = z.1; left_constants = no-constants; right_constants = no-constants } in
    let lr = query-read left a.kind a.dataset a.base l lq in
    let rr = query-read right a.kind a.dataset a.base r rq in
    let v : Valid (minus_sides (left_side m) (right_side m)) = without-valid m (left-known m pairs [] [] lr rr ls w.all-inside w.none-twice) (right-known m pairs [] [] lr rr ls w.all-inside w.none-twice) in (
      l,
      r,
      js,
      a.kind,
      a.dataset,
      a.base,
      record { left_query = lq; right_query = rq },
      z.1,
      over_sized a (minus_sides (left_side m) (right_side m)) b (without_figures (length b) m) (query-valid left a x.1) v w.gives (without-figures (length b) l r js),
    )

pub push-sized : (query constants b : Bytes)
    → push_constants_outcome query constants ≡ written b
    → (q : Query) × (ks : List Constant) × (read_given_query query ≡ reads q) × (read_constants constants ≡ reads ks) × (query_sizes (written b) ≡ sized (head_line (query_pushed_figures (length b) q ks)))
unfolding push_constants_outcome push_constants pushed query_pushed_figures
push-sized query constants b e =
    let x = then-written (read_given_query query) _ b e in
    let y = then-written (read_constants constants) (push_constants x.0) b x.2 in
    (x.0, y.0, x.1, y.1, kinds x.0 y.0 x.1 (constants-good constants y.0 y.1) (is_select_or_ask x.0.kind) y.2)
  where
    copied : (q : Query) → read_given_query query ≡ reads q → written (layout_query q) ≡ written b → query_sizes (written b) ≡ sized (head_line (copied_figures (length b) q.tree))
    copied q e r = over_sized q q.tree b (copied_figures (length b) q.tree) (query-valid query q e) (given-valid query q e) r refl

    root : (q : Query) (ks : List Constant) → read_given_query query ≡ reads q → Good ks → (o : Option Projection) → as_project q.tree ≡ o → pushed q ks o ≡ written b → query_sizes (written b) ≡ sized (head_line (root_figures (length b) q.tree ks o))
    root q ks e g none h r = copied q e r
    root q ks e g (some x) h r =
        let t : q.tree ≡ tree x = project-of q.tree x h in
        let z = test-written 3 (inside x.columns (positions ks)) (written (layout_query (over q (push_constants_in_project_pattern x ks)))) b r in
        over_sized q (push_constants_in_project_pattern x ks) b (pushed_figures (length b) x ks) (query-valid query q e)
        (pushed-valid x ks (subst Valid t (given-valid query q e)) (subst (λ (p : Pattern). length (by_place p) ≤ 1024) t (given-names query q e)) z.0 g) z.1 (pushed-figures (length b) x ks)

    kinds : (q : Query) (ks : List Constant) → read_given_query query ≡ reads q → Good ks → (t : Bool) → cond t (pushed q ks (as_project q.tree)) (written (layout_query q)) ≡ written b
        → query_sizes (written b) ≡ sized (head_line (cond t (root_figures (length b) q.tree ks (as_project q.tree)) (copied_figures (length b) q.tree)))
    kinds q ks e g true r = root q ks e g (as_project q.tree) refl r
    kinds q ks e g false r = copied q e r

pub negate-sized : (query b : Bytes)
    → negate_outcome query ≡ written b
    → (q : Query) × (read_given_query query ≡ reads q) × (query_sizes (written b) ≡ sized (head_line (query_negated_figures (length b) q)))
unfolding negate_outcome negate_query query_negated_figures
negate-sized query b e =
    let x = then-written (read_given_query query) (λ q. written (layout_query (negate_query q))) b e in
    (x.0, x.1, kinds x.0 x.1 (is_select_or_ask x.0.kind) x.2)
  where
    kinds : (q : Query) → read_given_query query ≡ reads q → (t : Bool) → written (layout_query (cond t (over q (negate_project_pattern q.tree)) q)) ≡ written b
        → query_sizes (written b) ≡ sized (head_line (cond t (negated_figures (length b) q.tree) (copied_figures (length b) q.tree)))
    kinds q e true r = over_sized q (negate_project_pattern q.tree) b (negated_figures (length b) q.tree) (query-valid query q e) (negated-valid q.tree (given-valid query q e)) r (negated-figures (length b) q.tree)
    kinds q e false r = over_sized q q.tree b (copied_figures (length b) q.tree) (query-valid query q e) (given-valid query q e) r refl
