-- The order of constants: what a list says rises by position and is told by its terms, so lists of the same constants give one outcome. Assumes nothing.
use mathlib.Core.Path.{◌≡◌, refl, sym, ap, ap₂, ◌∙◌}
use mathlib.Core.Bool.{Bool, true, false}
use mathlib.Core.List.{List, [], ◌∷◌}
use mathlib.Core.Option.{some-injective}
use Prim.Native.Nat.{ℕ}
use native.Mathlib.Omega.{arith}
use lib.Dec.{eqb}
use borrow.Author.Tests.{eqb-true}
use Rattle.text.specs.Text.{Bytes}
use Rattle.text.proofs.Basics.{and_left, and_right}
use Rattle.algebra.specs.Query.{Pair, constants}
use Rattle.algebra.specs.Reader.{Outcome as Reading, reads}
use Rattle.algebra.specs.Texts.{read_pairs}
use Rattle.algebra.specs.Given.{read_given_tree, read_given_query}
use Rattle.algebra.specs.Layout.{layout}
use Rattle.algebra.specs.Bounded.{layout_query}
use Rattle.answers.specs.Outcome.{written, then, refused_unless}
use Rattle.scoping.specs.Sets.{all}
use Rattle.merging.specs.Sides.{Constant}
use Rattle.merging.specs.Request.{constants_in, by_position, made, read_joins, read_constants}
use Rattle.merging.specs.Merge.{merge_trees, merge_patterns_outcome, mergeable, over, merge_queries_outcome}
use Rattle.merging.specs.Push.{push_constants, push_constants_outcome}
use Rattle.merging.specs.Order.{rise, listed, SameConstants, SameLists}
use Rattle.merging.proofs.Given.{made_reads}
use Rattle.merging.proofs.Sorted.{below, sorted-rise, listed_here, listed-past, sorted-listed, none_below, some-none, not-before, read-apart}

-- ---- lists

-- two lists that rise and have the same terms are one
pub rising-once : (ks ls : List Constant) → rise ks ≡ true → rise ls ≡ true → SameConstants ks ls → ks ≡ ls
unfolding rise listed
rising-once [] [] r s e = refl
rising-once [] (l ∷ ls) r s e = absurd (some-none l.term (sym (listed_here l ls) ∙ sym (e l.position)))
rising-once (k ∷ ks) [] r s e = absurd (some-none k.term (sym (listed_here k ks) ∙ e k.position))
rising-once (k ∷ ks) (l ∷ ls) r s e =
    ap₂ ◌∷◌ (ap₂ (λ (i : ℕ) (t : Bytes). record { position = i; term = t }) at terms)
    (rising-once ks ls (and_right (all (below k) ks) (rise ks) r) (and_right (all (below l) ls) (rise ls) s) (λ i. behind i (eqb i k.position) refl))
  where
    first : all (below k) ks ≡ true
    first = and_left (all (below k) ks) (rise ks) r

    other : all (below l) ls ≡ true
    other = and_left (all (below l) ls) (rise ls) s

    at : k.position ≡ l.position
    at =
        let a = not-before k l ks ls other e in
        let b = not-before l k ls ks first (λ i. sym (e i)) in
        omega arith

    terms : k.term ≡ l.term
    terms = some-injective k.term l.term (sym (listed_here k ks) ∙ e k.position ∙ ap (λ i. listed i (l ∷ ls)) at ∙ listed_here l ls)

    behind : (i : ℕ) (t : Bool) → eqb i k.position ≡ t → listed i ks ≡ listed i ls
    behind i true h =
        ap (λ j. listed j ks) (eqb-true i k.position h)
        ∙ none_below k.position ks first
        ∙ sym (none_below l.position ls other)
        ∙ ap (λ j. listed j ls) (sym at ∙ sym (eqb-true i k.position h))
    behind i false h = sym (listed-past i k ks h) ∙ e i ∙ listed-past i l ls (ap (eqb i) (sym at) ∙ h)

-- ---- texts

-- what a constant list says stands by rising position
pub constants-rise : (s : Bytes) (ks : List Constant) → read_constants s ≡ reads ks → rise ks ≡ true
unfolding read_constants
constants-rise s ks e =
    let x = made_reads (λ xs. by_position (constants_in xs)) (read_pairs constants s) ks e in
    ap rise x.2 ∙ sorted-rise (constants_in x.0) (read-apart s x.0 x.1)

-- and each position has the term of its line, no other has one
pub constants-listed : (s : Bytes) (xs : List Pair) (ks : List Constant) → read_pairs constants s ≡ reads xs → read_constants s ≡ reads ks → SameConstants ks (constants_in xs)
unfolding read_constants
constants-listed s xs ks h e i =
    let same : reads (by_position (constants_in xs)) ≡ reads ks = sym (ap (made (λ xs. by_position (constants_in xs))) h) ∙ e in
    let is : by_position (constants_in xs) ≡ ks = cc in
    ap (listed i) (sym is) ∙ sorted-listed i (constants_in xs) (read-apart s xs h)

-- lists of the same constants say one thing, whatever the order of their lines
pub one-order : (s t : Bytes) → SameLists s t → read_constants s ≡ read_constants t
unfolding read_constants
one-order s t h =
    let a = read-apart s h.first h.first_read in
    let b = read-apart t h.second h.second_read in
    ap (made (λ xs. by_position (constants_in xs))) h.first_read
    ∙ ap reads (rising-once _ _ (sorted-rise (constants_in h.first) a) (sorted-rise (constants_in h.second) b) (λ i. sorted-listed i (constants_in h.first) a ∙ h.same i ∙ sym (sorted-listed i (constants_in h.second) b)))
    ∙ sym (ap (made (λ xs. by_position (constants_in xs))) h.second_read)

-- ---- calls

pub merge-patterns-one-order : (left right pairs ks ks' ls ls' : Bytes) → SameLists ks ks' → SameLists ls ls' → merge_patterns_outcome left right pairs ks ls ≡ merge_patterns_outcome left right pairs ks' ls'
unfolding merge_patterns_outcome
merge-patterns-one-order left right pairs ks ks' ls ls' a b =
    ap₂
    (λ (l r : Reading (List Constant)).
    then (read_given_tree left) λ p.
    then (read_given_tree right) λ q.
    then (read_joins pairs) λ js.
    then l λ ks.
    then r λ ls.
    merge_trees p q js ks ls λ t. written (layout t))
    (one-order ks ks' a) (one-order ls ls' b)

pub merge-queries-one-order : (left right pairs ks ks' ls ls' : Bytes) → SameLists ks ks' → SameLists ls ls' → merge_queries_outcome left right pairs ks ls ≡ merge_queries_outcome left right pairs ks' ls'
unfolding merge_queries_outcome
merge-queries-one-order left right pairs ks ks' ls ls' a b =
    ap₂
    (λ (l r : Reading (List Constant)).
    then (read_given_query left) λ p.
    then (read_given_query right) λ q.
    then (read_joins pairs) λ js.
    then l λ ks.
    then r λ ls.
    refused_unless 5 (mergeable p q) (merge_trees p.tree q.tree js ks ls λ t. written (layout_query (over p t))))
    (one-order ks ks' a) (one-order ls ls' b)

pub push-constants-one-order : (query ks ks' : Bytes) → SameLists ks ks' → push_constants_outcome query ks ≡ push_constants_outcome query ks'
unfolding push_constants_outcome
push-constants-one-order query ks ks' a =
    ap
    (λ (l : Reading (List Constant)).
    then (read_given_query query) λ q.
    then l λ ks.
    push_constants q ks)
    (one-order ks ks' a)
