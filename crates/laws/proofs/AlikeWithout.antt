-- Without, of texts that differ only inside literals: one refusal, or answers that differ only inside literals. Assumes nothing.
use mathlib.Core.Path.{◌≡◌, refl, sym, ap, ◌∙◌}
use mathlib.Core.Bool.{Bool, true}
use mathlib.Core.List.{List, []}
use Rattle.text.specs.Text.{Bytes}
use Rattle.algebra.specs.Tree.{Pattern, minus, project}
use Rattle.algebra.specs.Query.{Query}
use Rattle.algebra.specs.Bounded.{layout_query}
use Rattle.algebra.specs.Reader.{reads}
use Rattle.scoping.specs.Label.{prefix_l, prefix_r}
use Rattle.answers.specs.Outcome.{Outcome, written}
use Rattle.merging.specs.Sides.{Pair, lefts, rights}
use Rattle.merging.specs.Request.{as_project, read_joins, Request, left_side, right_side, all_inside}
use Rattle.merging.specs.Merge.{named_sides, mergeable, over}
use Rattle.merging.specs.Without.{minus_sides, plain_request, is_joined, without_trees, without_queries_outcome}
use Rattle.merging.specs.Asked.{Lists}
use Rattle.merging.specs.bridge.Twice.{none_twice}
use Rattle.merging.proofs.Given.{sides-named}
use Rattle.merging.proofs.Lists.{no-constants}
use Rattle.merging.proofs.Written.{Known, without-valid}
use Rattle.merging.proofs.SidesKnown.{left-known, right-known}
use Rattle.laws.specs.Alike.{Alike, AlikeOutcome}
use Rattle.laws.proofs.ErasedTree.{erased_tree}
use Rattle.laws.proofs.ErasedCalls.{erased_projection, erased_request, columns-same, pattern-same, inside-erased}
use Rattle.laws.proofs.AlikeCalls.{Read, query-read, query-valid, root-read, joins-alike, then-alike, or-alike, unless-alike, told-alike, roots-alike, query-step, requests-same, Goes, queries-go, heads-alike}

module _ (may : Bytes → Bool) where
  without-erased : (m : Request) → Known prefix_l m.left (lefts m.joins) m.left_constants → Known prefix_r m.right (rights m.joins) m.right_constants → minus_sides (left_side (erased_request may m)) (right_side (erased_request may m)) ≡ erased_tree may (minus_sides (left_side m) (right_side m))
  unfolding minus_sides erased_tree
  without-erased m a b = λ i.
      project (columns-same may prefix_l m.left (lefts m.joins) m.left_constants a i)
      (minus (pattern-same may prefix_l m.left (lefts m.joins) m.left_constants a i) (pattern-same may prefix_r m.right (rights m.joins) m.right_constants b i))

  trees-alike : (pairs pairs' : Bytes) (p p' q q' : Pattern) (js js' : List Pair) (k k' : Pattern → Outcome) → read_joins pairs ≡ reads js → read_joins pairs' ≡ reads js' → Read p → Read p' → Read q → Read q'
      → erased_tree may p ≡ erased_tree may p' → erased_tree may q ≡ erased_tree may q' → js ≡ js' → Goes may k k' → AlikeOutcome may (without_trees p q js k) (without_trees p' q' js' k')
  unfolding without_trees Goes
  trees-alike pairs pairs' p p' q q' js js' k k' j j' rp rp' rq rq' ep eq ej go =
      or-alike may 4 (erased_projection may) (as_project p) (as_project p') _ _ (roots-alike may p p' ep) (λ l l' x x' a.
      or-alike may 4 (erased_projection may) (as_project q) (as_project q') _ _ (roots-alike may q q' eq) (λ r r' y y' b.
      unless-alike may 11 (is_joined js) (is_joined js') _ _ (ap is_joined ej) (λ s.
      let m = plain_request l r js in
      let m' = plain_request l' r' js' in
      let one = requests-same may l l' r r' js js' [] [] [] [] a b ej refl refl in
      let i : all_inside m ≡ all_inside m' = sym (inside-erased may m) ∙ ap all_inside one ∙ inside-erased may m' in
      unless-alike may 3 (all_inside m) (all_inside m') _ _ i (λ h.
      told-alike may (named_sides m (λ s t. k (minus_sides s t))) (named_sides m' (λ s t. k' (minus_sides s t))) _ _ (sides-named m (λ s t. k (minus_sides s t))) (sides-named m' (λ s t. k' (minus_sides s t))) (unless-alike may 10 (none_twice js) (none_twice js') _ _ (ap none_twice ej) (λ o.
      let ls : Lists pairs [] [] m = record { joins = j; left_constants = no-constants; right_constants = no-constants } in
      let ls' : Lists pairs' [] [] m' = record { joins = j'; left_constants = no-constants; right_constants = no-constants } in
      let i' : all_inside m' ≡ true = sym i ∙ h in
      let o' : none_twice js' ≡ true = sym (ap none_twice ej) ∙ o in
      let u = left-known m pairs [] [] (root-read p l x rp) (root-read q r y rq) ls h o in
      let v = right-known m pairs [] [] (root-read p l x rp) (root-read q r y rq) ls h o in
      let u' = left-known m' pairs' [] [] (root-read p' l' x' rp') (root-read q' r' y' rq') ls' i' o' in
      let v' = right-known m' pairs' [] [] (root-read p' l' x' rp') (root-read q' r' y' rq') ls' i' o' in
      go (minus_sides (left_side m) (right_side m)) (minus_sides (left_side m') (right_side m')) (without-valid m u v) (without-valid m' u' v') (sym (without-erased m u v) ∙ ap (λ (n : Request). minus_sides (left_side n) (right_side n)) one ∙ without-erased m' u' v')))))))

  pub without-alike : (left left' right right' pairs pairs' : Bytes) → Alike may left left' → Alike may right right' → Alike may pairs pairs' → AlikeOutcome may (without_queries_outcome left right pairs) (without_queries_outcome left' right' pairs')
  unfolding without_queries_outcome
  without-alike left left' right right' pairs pairs' al ar aj =
      query-step may left left' _ _ al (λ p p' x x' ep.
      query-step may right right' _ _ ar (λ q q' y y' eq.
      then-alike may (λ js. js) (read_joins pairs) (read_joins pairs') _ _ (joins-alike may pairs pairs' aj) (λ js js' j j' ej.
      unless-alike may 5 (mergeable p q) (mergeable p' q') _ _ (heads-alike may p p' q q' ep eq) (λ h.
      trees-alike pairs pairs' p.tree p'.tree q.tree q'.tree js js' (λ t. written (layout_query (over p t))) (λ t. written (layout_query (over p' t))) j j'
      (query-read left p x) (query-read left' p' x') (query-read right q y) (query-read right' q' y') (ap (λ (r : Query). r.tree) ep) (ap (λ (r : Query). r.tree) eq) ej
      (queries-go may p p' (query-valid left p x) (query-valid left' p' x') ep)))))
