-- The calls as a whole: the texts, then heads, roots and positions, in the specification's order. Assumes nothing.
use Prim.Native.Nat.{ℕ}
use mathlib.Core.Path.{◌≡◌, refl, sym, ap, subst, ◌∙◌}
use mathlib.Core.List.{[], ◌++◌}
use mathlib.Core.Bool.{Bool, true, false, not}
use mathlib.Core.Option.{none, some}
use borrow.Author.Tests.{not-true, not-false}
use native.Mathlib.Omega.{arith}
use lib.ListN.{length, take, drop, length-drop}
use lib.Seq.{take_all}
use Rattle.text.specs.Text.{Bytes, lines_from}
use Rattle.text.proofs.Texts.{neat-ended}
use Rattle.algebra.specs.Tree.{Pattern}
use Rattle.algebra.specs.Query.{Query}
use Rattle.algebra.specs.Valid.{Valid}
use Rattle.algebra.specs.Layout.{put, layout}
use Rattle.algebra.specs.Bounded.{layout_query}
use Rattle.algebra.proofs.Neat.{neat}
use Rattle.heads.proofs.Cut.{text-from}
use Rattle.algebra.specs.Reader.{Outcome as Reading, reads, refuses, malformed, over_bound}
use Rattle.algebra.specs.Texts.{read_pairs}
use Rattle.algebra.specs.Given.{read_given_tree, read_given_query}
use Rattle.algebra.specs.Query as Query
use Rattle.algebra.specs.bridge.Answers.{Answer as Check}
use Rattle.answers.specs.Outcome.{Outcome, written, then, refused_unless, Reported, Answered, Answer}
use Rattle.answers.proofs.Answers.{answered}
use Rattle.merging.specs.Request.{Projection, as_project, made, read_joins, read_constants, join_positions, by_position, constants_in}
use Rattle.merging.specs.Merge.{lists, is_select_or_ask, mergeable, merge_trees, merge_patterns_outcome, merge_queries_outcome, over}
use Rattle.merging.specs.Without.{without_trees, without_queries_outcome}
use Rattle.merging.specs.bridge.Combined.{may_combine, combine_trees}
use Rattle.merging.proofs.Lists.{no-constants}
use Rattle.merging.proofs.Combined.{of-merge, of-without}
use Rattle.merging.specs.Push.{push_constants_in_project_pattern, pushed, push_constants, push_constants_outcome}
use Rattle.heads.specs.bridge.TreeAt.{HeadOf}
use Rattle.heads.proofs.Queries.{over-layout}
use Rattle.joining.specs.bridge.Form.{headless, read_form, head_of, may_merge, listed_behind, merge_with, merge_outcome, push_with}
use Rattle.projects.specs.bridge.Joining.{KnownTerms, ListsRead, ListsChecked, pushed_behind, combined_behind, joined_behind}
use Rattle.projects.proofs.Outcomes as O
use Rattle.std.specs.Prelude.{Ok, Err}
use Rattle.answers.specs.declared.Refusal.TheVariants.{Malformed, NoPairs, NotMergeable, NotProject, OverBound}
use Rattle.algebra.specs.declared.Fault.TheVariants.{Malformed, OverBound}

-- ---- push constants

module _ (query constants out : Bytes) where
  pub push-malformed : read_given_query query ≡ refuses malformed → Answered (push_constants_outcome query constants) out out (Err Malformed)
  unfolding push_constants_outcome Reported
  push-malformed e = rw e (refl, refl, refl)

  pub push-over : read_given_query query ≡ refuses over_bound → Answered (push_constants_outcome query constants) out out (Err OverBound)
  unfolding push_constants_outcome Reported
  push-over e = rw e (refl, refl, refl)

  pub push-read : (q : Query) → read_given_query query ≡ reads q → push_constants_outcome query constants ≡ push_with q constants
  unfolding push_constants_outcome push_with
  push-read q e = rw e

module _ (q : Query) (constants out : Bytes) where
  pub terms-malformed : read_pairs Query.constants constants ≡ refuses malformed → Answered (push_with q constants) out out (Err Malformed)
  unfolding push_with read_constants Reported
  terms-malformed e = rw e (refl, refl, refl)

  pub terms-over : read_pairs Query.constants constants ≡ refuses over_bound → Answered (push_with q constants) out out (Err OverBound)
  unfolding push_with read_constants Reported
  terms-over e = rw e (refl, refl, refl)

-- a query's text is its head and its tree's
query-text : (q : Query) (head text : Bytes) (from : ℕ) (piece : Bytes) → HeadOf head q → lines_from text from ≡ put q.tree [] → Valid q.tree → piece ≡ take (length text) (drop from text) → layout_query q ≡ head ++ piece
unfolding layout
query-text q head text from piece h l v e =
    over-layout q q.tree
    ∙ ap (λ (b : Bytes). b ++ layout q.tree) (sym h.text)
    ∙ ap (λ (b : Bytes). head ++ b) (sym (e ∙ take_all (length text) (drop from text) (simp length-drop (omega arith)) ∙ text-from text from (put q.tree []) l (neat-ended (put q.tree []) (neat q.tree [] v tt))))

module _ (q : Query) (constants : Bytes) (t : KnownTerms constants) (head : Bytes) (h : HeadOf head q) where
  asks : push_with q constants ≡ push_constants q (by_position (constants_in t.list))
  unfolding push_with
  asks = rw t.read

  module _ (text : Bytes) (from : ℕ) (piece : Bytes) (l : lines_from text from ≡ put q.tree []) (v : Valid q.tree) (is : piece ≡ take (length text) (drop from text)) where
    -- a query of another kind is copied
    pub other-kind : (b : Bool) → b ≡ is_select_or_ask q.kind → not b ≡ true → push_with q constants ≡ written (head ++ piece)
    unfolding push_constants
    other-kind b e n = asks ∙ rw (sym e ∙ not-true b n) (ap written (query-text q head text from piece h l v is))

    -- and so is one whose root is no project
    pub other-root : (b : Bool) → b ≡ is_select_or_ask q.kind → not b ≡ false → as_project q.tree ≡ none → push_with q constants ≡ written (head ++ piece)
    unfolding push_constants pushed
    other-root b e is-so n = asks ∙ rw (sym e ∙ not-false b is-so, n) (ap written (query-text q head text from piece h l v is))

  pub pushes : (b : Bool) → b ≡ is_select_or_ask q.kind → not b ≡ false → (x : Projection) → as_project q.tree ≡ some x → push_with q constants ≡ pushed_behind head x t.list
  unfolding push_constants pushed
  pushes b e is-so x n = asks ∙ rw (sym e ∙ not-false b is-so, n, over-layout q (push_constants_in_project_pattern x (by_position (constants_in t.list))), h.text)

-- ---- merge patterns, merge queries and without

-- the outcome over a form is that of its call
pub of-trees : (left right pairs leftConstants rightConstants : Bytes) → merge_outcome false false left right pairs leftConstants rightConstants ≡ merge_patterns_outcome left right pairs leftConstants rightConstants
unfolding merge_outcome merge_with listed_behind merge_patterns_outcome
of-trees left right pairs leftConstants rightConstants = go (read_given_tree left) (read_given_tree right)
  where
    go : (o o' : Reading Pattern) → (then (made headless o) λ a. then (made headless o') λ b. lists pairs leftConstants rightConstants λ js ks ls. combine_trees false a.tree b.tree js ks ls λ t. written (layout t))
        ≡ (then o λ p. then o' λ q. lists pairs leftConstants rightConstants λ js ks ls. merge_trees p q js ks ls λ t. written (layout t))
    go (reads p) (reads q) = λ i. lists pairs leftConstants rightConstants λ js ks ls. of-merge p q js ks ls (λ t. written (layout t)) i
    go (reads p) (refuses n) = refl
    go (refuses n) o' = refl

pub of-queries : (left right pairs leftConstants rightConstants : Bytes) → merge_outcome false true left right pairs leftConstants rightConstants ≡ merge_queries_outcome left right pairs leftConstants rightConstants
unfolding merge_outcome merge_with listed_behind merge_queries_outcome
of-queries left right pairs leftConstants rightConstants =
    (λ i.
    then (read_given_query left) λ a.
    then (read_given_query right) λ b.
    lists pairs leftConstants rightConstants λ js ks ls.
    refused_unless 5 (mergeable a b) (combine_trees false a.tree b.tree js ks ls λ t. written (sym (over-layout a t) i)))
    ∙ (λ i.
    then (read_given_query left) λ a.
    then (read_given_query right) λ b.
    lists pairs leftConstants rightConstants λ js ks ls.
    refused_unless 5 (mergeable a b) (of-merge a.tree b.tree js ks ls (λ t. written (layout_query (over a t))) i))

-- without binds no constants
pub of-less : (left right pairs : Bytes) → merge_outcome true true left right pairs [] [] ≡ without_queries_outcome left right pairs
unfolding merge_outcome merge_with listed_behind without_queries_outcome
of-less left right pairs = rw no-constants
    ((λ i.
    then (read_given_query left) λ a.
    then (read_given_query right) λ b.
    then (read_joins pairs) λ js.
    refused_unless 5 (mergeable a b) (combine_trees true a.tree b.tree js [] [] λ t. written (sym (over-layout a t) i)))
    ∙ (λ i.
    then (read_given_query left) λ a.
    then (read_given_query right) λ b.
    then (read_joins pairs) λ js.
    refused_unless 5 (mergeable a b) (of-without a.tree b.tree js (λ t. written (layout_query (over a t))) i)))

module _ (less query : Bool) (left right pairs leftConstants rightConstants out : Bytes) where
  pub left-malformed : read_form query left ≡ refuses malformed → Answered (merge_outcome less query left right pairs leftConstants rightConstants) out out (Err Malformed)
  unfolding merge_outcome Reported
  left-malformed e = rw e (refl, refl, refl)

  pub left_over : read_form query left ≡ refuses over_bound → Answered (merge_outcome less query left right pairs leftConstants rightConstants) out out (Err OverBound)
  unfolding merge_outcome Reported
  left_over e = rw e (refl, refl, refl)

  pub left-read : (a : Query) → read_form query left ≡ reads a → merge_outcome less query left right pairs leftConstants rightConstants ≡ merge_with less query a right pairs leftConstants rightConstants
  unfolding merge_outcome
  left-read a e = rw e

  module _ (a : Query) where
    pub right-malformed : read_form query right ≡ refuses malformed → Answered (merge_with less query a right pairs leftConstants rightConstants) out out (Err Malformed)
    unfolding merge_with Reported
    right-malformed e = rw e (refl, refl, refl)

    pub right-over : read_form query right ≡ refuses over_bound → Answered (merge_with less query a right pairs leftConstants rightConstants) out out (Err OverBound)
    unfolding merge_with Reported
    right-over e = rw e (refl, refl, refl)

    pub right-read : (b : Query) → read_form query right ≡ reads b → (may : Bool) → may ≡ may_merge query a b → (head : Bytes) → head ≡ head_of query a
        → merge_with less query a right pairs leftConstants rightConstants ≡ listed_behind less may head a.tree b.tree pairs leftConstants rightConstants
    unfolding merge_with
    right-read b e may is head h = rw (e, is, h)

pub lists-good : (pairs a b : Bytes) (r : Check) (n : ℕ) → ListsChecked pairs a b r → r ≡ Ok n → ListsRead pairs a b
unfolding ListsChecked
lists-good pairs a b r n c e = subst (ListsChecked pairs a b) e c

-- both trees are there
module _ (less may : Bool) (head : Bytes) (p q : Pattern) (pairs leftConstants rightConstants : Bytes) where
  abbrev outcome : Outcome
  outcome = listed_behind less may head p q pairs leftConstants rightConstants

  pub lists-malformed : (out : Bytes) (r : Check) → ListsChecked pairs leftConstants rightConstants r → r ≡ (Err Malformed) → Answered outcome out out (Err Malformed)
  unfolding listed_behind ListsChecked Reported
  lists-malformed out r c e = rw (subst (ListsChecked pairs leftConstants rightConstants) e c _) (refl, refl, refl)

  pub lists-over : (out : Bytes) (r : Check) → ListsChecked pairs leftConstants rightConstants r → r ≡ (Err OverBound) → Answered outcome out out (Err OverBound)
  unfolding listed_behind ListsChecked Reported
  lists-over out r c e = rw (subst (ListsChecked pairs leftConstants rightConstants) e c _) (refl, refl, refl)

  -- and the lists
  module _ (r : ListsRead pairs leftConstants rightConstants) where
    pub not-mergeable : (out : Bytes) → not may ≡ true → Answered outcome out out (Err NotMergeable)
    unfolding listed_behind Reported
    not-mergeable out h = rw (r.joins_read, r.left.read, r.right.read, not-true may h) (refl, refl, refl)

    abbrev behind : Outcome
    behind = combined_behind less head p q r.js r.left.list r.right.list

    -- the heads are one
    module _ (ok : not may ≡ false) where
      merge-asks : outcome ≡ behind
      unfolding listed_behind
      merge-asks = rw (r.joins_read, r.left.read, r.right.read, not-false may ok)

      pub left-no-project : (out : Bytes) → as_project p ≡ none → Answered outcome out out (Err NotProject)
      left-no-project out z = answered behind _ out out (Err NotProject) merge-asks (O.left-no-project less head p q r.js r.left.list r.right.list out z)

      pub right-no-project : (out : Bytes) (x : Projection) → as_project p ≡ some x → as_project q ≡ none → Answered outcome out out (Err NotProject)
      right-no-project out x e z = answered behind _ out out (Err NotProject) merge-asks (O.right-no-project less head p q r.js r.left.list r.right.list out x e z)

      -- both trees are projects
      module _ (x y : Projection) (e : as_project p ≡ some x) (f : as_project q ≡ some y) where
        pub no_pairs : (out : Bytes) → may_combine less (join_positions r.js) ≡ false → Answered outcome out out (Err NoPairs)
        no_pairs out n = answered behind _ out out (Err NoPairs) merge-asks (O.no_pairs less head p q r.js r.left.list r.right.list out x y e f n)

        pub projects-answer : may_combine less (join_positions r.js) ≡ true → (out out' : Bytes) (a : Answer)
            → Answered (joined_behind less head x y r.js r.left.list r.right.list) out out' a → Answered outcome out out' a
        projects-answer n out out' a z = answered (joined_behind less head x y r.js r.left.list r.right.list) _ out out' a (merge-asks ∙ O.combined-as less head p q r.js r.left.list r.right.list x y e f n) z
