-- Merge and without are the two ways to combine: one statement over both serves each. Assumes nothing.
use mathlib.Core.Path.{◌≡◌, refl, sym, ap, ◌∙◌}
use mathlib.Core.Bool.{Bool, true, false, not}
use Prim.Native.Nat.{ℕ, zero, suc}
use native.Mathlib.Omega.{arith}
use lib.Dec.{eqb}
use lib.ListN.{length}
use borrow.Author.Tests.{not-true, not-false, ne_eqb}
use mathlib.Core.List.{List, [], ◌∷◌}
use Rattle.text.specs.Text.{Bytes, Line}
use Rattle.text.specs.Word.{bytes}
use Rattle.algebra.specs.Tree.{Pattern, minus, project}
use Rattle.algebra.specs.Layout.{put}
use Rattle.algebra.specs.Reader.{reads}
use Rattle.answers.specs.Outcome.{Outcome, or_refused, refused_unless}
use Rattle.merging.specs.Sides.{Pair, Constant, Side, renamed_columns, renamed_pattern, free_columns, merged_columns, merged}
use Rattle.merging.specs.Request.{Projection, as_project, read_joins, Request, request, left_side, right_side, all_inside}
use Rattle.merging.specs.Merge.{named_sides, merge_sides, merge_trees}
use Rattle.merging.specs.Without.{minus_sides, plain_request, is_joined, without_trees}
use Rattle.merging.specs.bridge.Twice.{none_twice}
use Rattle.merging.specs.bridge.Combined.{combined_sides, combined, may_combine, combine_trees}
use Rattle.merging.proofs.Given.{sides-named}
use Rattle.merging.proofs.Lines.{columns-free}
use Rattle.merging.proofs.Lists.{no-pair, some_pair}

-- ---- the calls

pub of-merge : (p q : Pattern) (js : List Pair) (ks ls : List Constant) (k : Pattern → Outcome) → combine_trees false p q js ks ls k ≡ merge_trees p q js ks ls k
unfolding combine_trees combined_sides may_combine merge_trees merge_sides
of-merge p q js ks ls k = refl

-- a side without constants keeps all its columns
minus_is : (l r : Side) (js : List Pair) → l.constants ≡ [] → combined_sides true l r js ≡ minus_sides l r
unfolding combined_sides minus_sides
minus_is l r js e = ap (λ (cs : List Bytes). project cs (minus (renamed_pattern l) (renamed_pattern r))) (columns-free l e)

pub of-without : (p q : Pattern) (js : List Pair) (k : Pattern → Outcome) → combine_trees true p q js [] [] k ≡ without_trees p q js k
unfolding combine_trees may_combine without_trees
of-without p q js k i =
    or_refused 4 (as_project p) λ l.
    or_refused 4 (as_project q) λ r.
    refused_unless 11 (is_joined js)
    (refused_unless 3 (all_inside (plain_request l r js)) (at l r i))
  where
    at : (l r : Projection) → (named_sides (plain_request l r js) λ s t. k (combined_sides true s t js)) ≡ (named_sides (plain_request l r js) λ s t. k (minus_sides s t))
    at l r =
        sides-named (plain_request l r js) (λ s t. k (combined_sides true s t js))
        ∙ ap (λ (t : Pattern). refused_unless 10 (none_twice js) (k t)) (minus_is (left_side (plain_request l r js)) (right_side (plain_request l r js)) js refl)
        ∙ sym (sides-named (plain_request l r js) (λ s t. k (minus_sides s t)))

-- ---- for the code

-- by a join no pair is asked for; by a minus there is one exactly if the list's text has a byte
pub join-may : (less : Bool) → not less ≡ true → (js : List Pair) → true ≡ may_combine less js
unfolding may_combine
join-may less h js = rw (not-true less h)

pub minus-may : (less : Bool) → not less ≡ false → (s : Bytes) (r : Bool) → r ≡ eqb (length s) 0 → (js : List Pair) → read_joins s ≡ reads js → not r ≡ may_combine less js
unfolding may_combine
minus-may less h s r e js k = rw (not-false less h, e) (go (length s) (no-pair s js k) (some_pair s js k))
  where
    go : (n : ℕ) → (n ≡ 0 → is_joined js ≡ false) → ((n ≡ 0 → ⊥) → is_joined js ≡ true) → not (eqb n 0) ≡ is_joined js
    go zero f g = sym (f refl)
    go (suc n) f g = ap not (ne_eqb (suc n) 0 (λ z. omega arith)) ∙ sym (g (λ z. omega arith))

-- the naming steps of both sides are one test
pub sides-combined : (less : Bool) (m : Request) (k : Pattern → Outcome) → (named_sides m λ s t. k (combined_sides less s t m.joins)) ≡ refused_unless 10 (none_twice m.joins) (k (combined less m))
unfolding combined
sides-combined less m k = sides-named m (λ s t. k (combined_sides less s t m.joins))

-- the columns, a join or a minus, the left side's lines, the right side's
pub join-lines : (m : Request) (t : List Line)
    → put (combined false m) t ≡ (bytes "project" ∷ merged_columns (left_side m) (right_side m) m.joins) ∷ (bytes "join" ∷ []) ∷ put (renamed_pattern (left_side m)) (put (renamed_pattern (right_side m)) t)
unfolding combined combined_sides merged put
join-lines m t = refl

pub minus-lines : (m : Request) (t : List Line)
    → put (combined true m) t ≡ (bytes "project" ∷ free_columns (left_side m)) ∷ (bytes "minus" ∷ []) ∷ put (renamed_pattern (left_side m)) (put (renamed_pattern (right_side m)) t)
unfolding combined combined_sides put
minus-lines m t = refl
