-- A report is a row of merges on texts: each step is a merge of two queries' texts, and what it writes is the next one's left text. Assumes nothing.
use mathlib.Core.Path.{◌≡◌, refl, sym, ap, ◌∙◌}
use mathlib.Core.Bool.{Bool, true, false}
use mathlib.Core.List.{List, [], ◌∷◌}
use mathlib.Core.Option.{Option, none, some}
use Prim.Native.Nat.{ℕ, ◌<◌}
use lib.ListN.{length}
use borrow.Author.Tests.{lt-ltb}
use Rattle.text.specs.Text.{Bytes}
use Rattle.algebra.specs.Tree.{Pattern}
use Rattle.algebra.specs.Query.{Query}
use Rattle.algebra.specs.Reader.{Outcome as Reading, reads, refuses}
use Rattle.algebra.specs.Bounded.{layout_query}
use Rattle.algebra.specs.Given.{read_given_query}
use Rattle.answers.specs.Outcome.{Outcome, refused, written, then, or_refused, refused_unless}
use Rattle.merging.specs.Sides.{Pair, Constant}
use Rattle.merging.specs.Request.{as_project, request, all_inside}
use Rattle.merging.specs.Merge.{merge_project_patterns, merge_sides, merge_trees, mergeable, over, merge_queries_outcome}
use Rattle.merging.specs.bridge.Twice.{none_twice}
use Rattle.merging.proofs.Given.{sides-merged}
use Rattle.reporting.specs.Report.{StepTexts, Step, merge_step, merge_steps}
use Rattle.reporting.specs.Steps.{StepRead, StepsRead}
use Rattle.reporting.specs.bridge.Turns.{onward, merged_step, merged_in_turn}

on_test : (n : ℕ) (t : Bool) (o : Outcome) (k : Bytes → Outcome) → onward (refused_unless n t o) k ≡ refused_unless n t (onward o k)
on_test n true o k = refl
on_test n false o k = refl

on_some : {A : Type 0} (n : ℕ) (o : Option A) (f : A → Outcome) (k : Bytes → Outcome) (g : A → Outcome) → ((a : A) → onward (f a) k ≡ g a) → onward (or_refused n o f) k ≡ or_refused n o g
on_some n none f k g h = refl
on_some n (some a) f k g h = h a

on_then : {A : Type 0} (o : Reading A) (f : A → Outcome) (k : Bytes → Outcome) (g : A → Outcome) → ((a : A) → onward (f a) k ≡ g a) → onward (then o f) k ≡ then o g
on_then (reads a) f k g h = h a
on_then (refuses n) f k g h = refl

on-trees : (p q : Pattern) (js : List Pair) (ks ls : List Constant) (f : Pattern → Bytes) (k : Bytes → Outcome) → onward (merge_trees p q js ks ls (λ t. written (f t))) k ≡ merge_trees p q js ks ls (λ t. k (f t))
unfolding merge_trees
on-trees p q js ks ls f k =
    on_some 4 (as_project p) _ k _ λ l. on_some 4 (as_project q) _ k _ λ r.
    let m = request l r js ks ls in
    on_test 3 (all_inside m) (merge_sides m (λ t. written (f t))) k
    ∙ ap (refused_unless 3 (all_inside m))
    (ap (λ o. onward o k) (sides-merged m (λ t. written (f t))) ∙ on_test 10 (none_twice js) (written (f (merge_project_patterns m))) k ∙ sym (sides-merged m (λ t. k (f t))))

on_step : (q : Query) (s : Step) (k : Bytes → Outcome) → onward (merge_step q s (λ r. written (layout_query r))) k ≡ merge_step q s (λ r. k (layout_query r))
unfolding merge_step
on_step q s k = on_test 5 (mergeable q s.query) _ k ∙ ap (refused_unless 5 (mergeable q s.query)) (on-trees q.tree s.query.tree s.joins s.left_constants s.right_constants (λ t. layout_query (over q t)) k)

module _ (left : Bytes) (t : StepTexts) (s : Step) (r : StepRead t s) where
  -- a step is a merge of queries
  step-merges : merged_step left t ≡ then (read_given_query left) λ q. merge_step q s λ r. written (layout_query r)
  unfolding merged_step merge_queries_outcome merge_step
  step-merges = rw (r.query, r.joins, r.left_constants, r.right_constants)

  -- the last one
  last_step : merge_steps (read_given_query left) (s ∷ []) ≡ merged_step left t
  unfolding merge_steps
  last_step = sym step-merges

  -- and one before others: what it writes is the next one's left text
  next-step : (u : Step) (us : List Step) → merge_steps (read_given_query left) (s ∷ u ∷ us) ≡ onward (merged_step left t) (λ b. merge_steps (read_given_query b) (u ∷ us))
  unfolding merge_steps
  next-step u us = sym (ap (λ o. onward o (λ b. merge_steps (read_given_query b) (u ∷ us))) step-merges ∙ on_then (read_given_query left) (λ q. merge_step q s (λ r. written (layout_query r))) (λ b. merge_steps (read_given_query b) (u ∷ us)) (λ q. merge_step q s (λ r. merge_steps (read_given_query (layout_query r)) (u ∷ us))) (λ q. on_step q s (λ b. merge_steps (read_given_query b) (u ∷ us))))

on_same : (o : Outcome) {k j : Bytes → Outcome} → ((b : Bytes) → k b ≡ j b) → onward o k ≡ onward o j
on_same (refused n) h = refl
on_same (written b) h = h b

-- the steps of a report are merges in turn
pub steps-in-turn : (left : Bytes) (t : StepTexts) (ts : List StepTexts) (ss : List Step) → StepsRead (t ∷ ts) ss → merge_steps (read_given_query left) ss ≡ merged_in_turn left (t ∷ ts)
unfolding StepsRead merged_in_turn
steps-in-turn left t ts [] r = absurd r
steps-in-turn left t [] (s ∷ []) r = last_step left t s r.0
steps-in-turn left t [] (s ∷ u ∷ us) r = absurd r.1
steps-in-turn left t (v ∷ vs) (s ∷ []) r = absurd r.1
steps-in-turn left t (v ∷ vs) (s ∷ u ∷ us) r = next-step left t s r.0 u us ∙ on_same (merged_step left t) (λ b. steps-in-turn b v vs (u ∷ us) r.1)

-- what is longer than a text may be is 2: so a buffer of 16,384 bytes is enough between two steps
long-step : (b : Bytes) (u : StepTexts) → 16384 < length b → merged_step b u ≡ refused 2
unfolding merged_step merge_queries_outcome read_given_query
long-step b u h = rw (lt-ltb 16384 (length b) h)

pub long-between : (b : Bytes) (u : StepTexts) (us : List StepTexts) → 16384 < length b → merged_in_turn b (u ∷ us) ≡ refused 2
unfolding merged_in_turn
long-between b u [] h = long-step b u h
long-between b u (v ∷ us) h = ap (λ o. onward o (λ b. merged_in_turn b (v ∷ us))) (long-step b u h)
