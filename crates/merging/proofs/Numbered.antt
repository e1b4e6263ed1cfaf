-- No merge refuses with 0, nor does without. Assumes nothing.
use mathlib.Core.Path.{sym, subst}
use mathlib.Core.List.{List}
use native.Mathlib.Omega.{arith}
use Rattle.text.specs.Text.{Bytes}
use Rattle.algebra.specs.Tree.{Pattern}
use Rattle.algebra.specs.Layout.{layout}
use Rattle.algebra.specs.Bounded.{layout_query}
use Rattle.algebra.specs.Given.{read_given_tree, read_given_query}
use Rattle.answers.specs.Outcome.{Outcome, written}
use Rattle.answers.proofs.Numbered.{Numbered, written-numbered, then-numbered, some-numbered, test-numbered}
use Rattle.merging.specs.Sides.{Pair, Constant}
use Rattle.merging.specs.Request.{as_project, read_joins, read_constants, Request, request, all_inside}
use Rattle.merging.specs.Merge.{merge_project_patterns, lists, merge_trees, merge_patterns_outcome, mergeable, over, merge_queries_outcome}
use Rattle.merging.specs.Without.{minus_sides, plain_request, is_joined, without_trees, without_queries_outcome}
use Rattle.merging.specs.bridge.Twice.{none_twice}
use Rattle.merging.proofs.Given.{sides-named, sides-merged}

pub lists-numbered : (pairs leftConstants rightConstants : Bytes) (k : List Pair → List Constant → List Constant → Outcome)
    → ((js : List Pair) (ks ls : List Constant) → Numbered (k js ks ls))
    → Numbered (lists pairs leftConstants rightConstants k)
lists-numbered pairs leftConstants rightConstants k f =
    then-numbered (read_joins pairs) _ λ js. then-numbered (read_constants leftConstants) _ λ ks. then-numbered (read_constants rightConstants) _ λ ls. f js ks ls

pub trees-numbered : (p q : Pattern) (js : List Pair) (ks ls : List Constant) (k : Pattern → Outcome) → ((t : Pattern) → Numbered (k t)) → Numbered (merge_trees p q js ks ls k)
unfolding merge_trees
trees-numbered p q js ks ls k f =
    some-numbered 4 (as_project p) _ (λ z. omega arith) λ l. some-numbered 4 (as_project q) _ (λ z. omega arith) λ r.
    test-numbered 3 (all_inside (request l r js ks ls)) _ (λ z. omega arith)
    (subst Numbered (sym (sides-merged (request l r js ks ls) k)) (test-numbered 10 (none_twice js) _ (λ z. omega arith) (f (merge_project_patterns (request l r js ks ls)))))

module _ (left right pairs leftConstants rightConstants : Bytes) where
  pub merge-patterns-numbered : Numbered (merge_patterns_outcome left right pairs leftConstants rightConstants)
  unfolding merge_patterns_outcome
  merge-patterns-numbered =
      then-numbered (read_given_tree left) _ λ p. then-numbered (read_given_tree right) _ λ q. lists-numbered pairs leftConstants rightConstants _ λ js ks ls.
      trees-numbered p q js ks ls (λ t. written (layout t)) (λ t. written-numbered (layout t))

  pub merge-queries-numbered : Numbered (merge_queries_outcome left right pairs leftConstants rightConstants)
  unfolding merge_queries_outcome
  merge-queries-numbered =
      then-numbered (read_given_query left) _ λ a. then-numbered (read_given_query right) _ λ b. lists-numbered pairs leftConstants rightConstants _ λ js ks ls.
      test-numbered 5 (mergeable a b) _ (λ z. omega arith)
      (trees-numbered a.tree b.tree js ks ls (λ t. written (layout_query (over a t))) (λ t. written-numbered (layout_query (over a t))))

pub without-numbered : (left right pairs : Bytes) → Numbered (without_queries_outcome left right pairs)
unfolding without_queries_outcome without_trees
without-numbered left right pairs =
    then-numbered (read_given_query left) _ λ a. then-numbered (read_given_query right) _ λ b. then-numbered (read_joins pairs) _ λ js.
    test-numbered 5 (mergeable a b) _ (λ z. omega arith)
    (some-numbered 4 (as_project a.tree) _ (λ z. omega arith) λ l. some-numbered 4 (as_project b.tree) _ (λ z. omega arith) λ r.
    test-numbered 11 (is_joined js) _ (λ z. omega arith)
    (test-numbered 3 (all_inside (plain_request l r js)) _ (λ z. omega arith)
    (subst Numbered (sym (sides-named (plain_request l r js) (λ s t. written (layout_query (over a (minus_sides s t))))))
    (test-numbered 10 (none_twice js) _ (λ z. omega arith) (written-numbered _)))))
