-- The list of filters that were not placed: which numbers stand in it, in which order, and how many. Assumes nothing.
use Prim.Native.Nat.{ℕ, zero, suc, ◌+◌, ◌≤◌, ◌<◌}
use mathlib.Core.Path.{◌≡◌, refl, ap, ap₂, ◌∙◌}
use mathlib.Core.Bool.{Bool, true, false, cond, not, ◌||◌}
use mathlib.Core.List.{List, [], ◌∷◌}
use mathlib.Core.Option.{Option, none, some}
use native.Mathlib.Omega.{arith}
use lib.ListN.{length}
use lib.Dec.{eqb, leb, ltb}
use borrow.Author.Tests.{leb-true, le-leb, lt-ltb, eq-eqb, ne_eqb}
use Rattle.text.specs.Text.{Bytes}
use Rattle.text.specs.Field.{given}
use Rattle.text.proofs.Basics.{and_left, and_right, and_both}
use Rattle.algebra.specs.Tree.{Pattern, Expression}
use Rattle.algebra.specs.Query.{Filter}
use Rattle.algebra.specs.Tally.{bounds}
use Rattle.algebra.specs.Reader.{Outcome, reads, refuses}
use Rattle.algebra.specs.Texts.{read_filters}
use Rattle.algebra.proofs.Theorem.{filters-exactly}
use Rattle.scoping.specs.Sets.{all, any}
use Rattle.merging.specs.Names.{from}
use Rattle.merging.specs.Request.{Projection}
use Rattle.negating.specs.Projections.{outermost_projection}
use Rattle.filtering.specs.Functions.{is_constant_true}
use Rattle.filtering.specs.Filters.{placed_expression, and_those, expressions}
use Rattle.filtering.specs.NotPlaced.{is_placed, numbers_failing, not_placed, none_or, not_placed_read, fails_at, rises}

-- ---- numbers of those that fail a test

-- both ways a test can go
by-test : {X : Type 0} (P : X → Type 0) (b : Bool) (x y : X) → P x → P y → P (cond b x y)
by-test P true x y p q = p
by-test P false x y p q = q

rises-lower : (i j : ℕ) (xs : List ℕ) → j ≤ i → rises i xs ≡ true → rises j xs ≡ true
unfolding rises
rises-lower i j [] h r = refl
rises-lower i j (x ∷ xs) h r =
    let k = leb-true i x (and_left (leb i x) (rises (suc x) xs) r) in
    and_both (leb j x) (rises (suc x) xs) (le-leb j x (omega arith)) (and_right (leb i x) (rises (suc x) xs) r)

below_none : (i k : ℕ) (xs : List ℕ) → k < i → rises i xs ≡ true → any (eqb k) xs ≡ false
unfolding rises any
below_none i k [] h r = refl
below_none i k (x ∷ xs) h r =
    let j = leb-true i x (and_left (leb i x) (rises (suc x) xs) r) in
    ap₂ ◌||◌ (ne_eqb k x (λ e. omega arith)) (below_none (suc x) k xs (omega arith) (and_right (leb i x) (rises (suc x) xs) r))

module _ {A : Type 0} (t : A → Bool) where
  failing-rises : (i : ℕ) (xs : List A) → rises i (numbers_failing t i xs) ≡ true
  unfolding numbers_failing rises
  failing-rises i [] = refl
  failing-rises i (x ∷ xs) =
      let r = failing-rises (suc i) xs in
      by-test (λ ks. rises i ks ≡ true) (t x) (numbers_failing t (suc i) xs) (i ∷ numbers_failing t (suc i) xs) (rises-lower (suc i) i (numbers_failing t (suc i) xs) (omega arith) r)
      (and_both (leb i i) (rises (suc i) (numbers_failing t (suc i) xs)) (le-leb i i (omega arith)) r)

  failing-exactly : (i k : ℕ) (xs : List A) → any (eqb (i + k)) (numbers_failing t i xs) ≡ fails_at t k xs
  unfolding numbers_failing fails_at any
  failing-exactly i k [] = refl
  failing-exactly i zero (x ∷ xs) = go (t x) (below_none (suc i) (i + 0) (numbers_failing t (suc i) xs) (omega arith) (failing-rises (suc i) xs))
    where
      go : (b : Bool) → any (eqb (i + 0)) (numbers_failing t (suc i) xs) ≡ false → any (eqb (i + 0)) (cond b (numbers_failing t (suc i) xs) (i ∷ numbers_failing t (suc i) xs)) ≡ not b
      go true h = h
      go false h = ap (λ (c : Bool). c || any (eqb (i + 0)) (numbers_failing t (suc i) xs)) (eq-eqb (i + 0) i (omega arith))
  failing-exactly i (suc k) (x ∷ xs) =
      let later : any (eqb (i + suc k)) (numbers_failing t (suc i) xs) ≡ fails_at t k xs = ap (λ (n : ℕ). any (eqb n) (numbers_failing t (suc i) xs)) (omega arith) ∙ failing-exactly (suc i) k xs in
      by-test (λ ks. any (eqb (i + suc k)) ks ≡ fails_at t k xs) (t x) (numbers_failing t (suc i) xs) (i ∷ numbers_failing t (suc i) xs) later (ap₂ ◌||◌ (ne_eqb (i + suc k) i (λ e. omega arith)) later)

  failing-few : (i : ℕ) (xs : List A) → length (numbers_failing t i xs) ≤ length xs
  unfolding numbers_failing
  failing-few i [] = omega arith
  failing-few i (x ∷ xs) =
      let f = failing-few (suc i) xs in
      by-test (λ ks. length ks ≤ suc (length xs)) (t x) (numbers_failing t (suc i) xs) (i ∷ numbers_failing t (suc i) xs) (omega arith) (omega arith)

  failing-below : (i n : ℕ) (xs : List A) → i + length xs ≤ n → all (λ k. ltb k n) (numbers_failing t i xs) ≡ true
  unfolding numbers_failing all
  failing-below i n [] h = refl
  failing-below i n (x ∷ xs) h =
      let r = failing-below (suc i) n xs (omega arith) in
      by-test (λ ks. all (λ k. ltb k n) ks ≡ true) (t x) (numbers_failing t (suc i) xs) (i ∷ numbers_failing t (suc i) xs) r (and_both (ltb i n) (all (λ k. ltb k n) (numbers_failing t (suc i) xs)) (lt-ltb i n (omega arith)) r)

-- ---- the list

module _ (o : Option Projection) (fs : List Filter) where
  -- a number is listed exactly if there is a filter of that number that is not placed
  pub not-placed-exactly : (k : ℕ) → any (eqb k) (not_placed o fs) ≡ fails_at (is_placed o) k fs
  unfolding not_placed
  not-placed-exactly k = ap (λ (n : ℕ). any (eqb n) (numbers_failing (is_placed o) 0 fs)) (omega arith) ∙ failing-exactly (is_placed o) 0 k fs

  -- the numbers rise, so none stands twice
  pub not-placed-rises : rises 0 (not_placed o fs) ≡ true
  unfolding not_placed
  not-placed-rises = failing-rises (is_placed o) 0 fs

  -- each is the number of one of the filters
  pub not-placed-below : (n : ℕ) → length fs ≤ n → all (λ k. ltb k n) (not_placed o fs) ≡ true
  unfolding not_placed
  not-placed-below n h = failing-below (is_placed o) 0 n fs (omega arith)

  pub not-placed-few : length (not_placed o fs) ≤ length fs
  unfolding not_placed
  not-placed-few = failing-few (is_placed o) 0 fs

-- an always-true filter is not placed
pub true-not-placed : (o : Option Projection) (f : Filter) → is_constant_true f ≡ true → is_placed o f ≡ false
unfolding is_placed placed_expression
true-not-placed none f h = refl
true-not-placed (some x) f h = rw h refl

-- with no projection found it is every filter
pub none-found-all : (fs : List Filter) → not_placed none fs ≡ from 0 (length fs)
unfolding not_placed numbers_failing is_placed from
none-found-all fs = go 0 fs
  where
    go : (i : ℕ) (gs : List Filter) → numbers_failing (is_placed none) i gs ≡ from i (length gs)
    go i [] = refl
    go i (g ∷ gs) = ap (λ (xs : List ℕ). i ∷ xs) (go (suc i) gs)

-- each filter has its expression in the tree or its number in the list
pub placed-or-listed : (x : Projection) (fs : List Filter) → length (not_placed (some x) fs) + length (expressions x.columns fs) ≡ length fs
unfolding not_placed numbers_failing is_placed expressions
placed-or-listed x fs = go 0 fs
  where
    one : (i : ℕ) (o : Option Expression) (ks : List ℕ) (es : List Expression) (n : ℕ) → length ks + length es ≡ n → length (cond (given o) ks (i ∷ ks)) + length (and_those o es) ≡ suc n
    one i none ks es n h = omega arith
    one i (some e) ks es n h = omega arith

    go : (i : ℕ) (gs : List Filter) → length (numbers_failing (is_placed (some x)) i gs) + length (expressions x.columns gs) ≡ length gs
    go i [] = refl
    go i (g ∷ gs) = one i (placed_expression x.columns g) (numbers_failing (is_placed (some x)) (suc i) gs) (expressions x.columns gs) (length gs) (go (suc i) gs)

-- of texts that are read there are at most as many as a list may have entries
pub listed-in-bounds : (o : Option Projection) (filters : Bytes) (fs : List Filter) → read_filters filters ≡ reads fs → (length (not_placed o fs) ≤ bounds.entries) × (all (λ k. ltb k bounds.entries) (not_placed o fs) ≡ true)
listed-in-bounds o filters fs e =
    let h = ((filters-exactly filters fs).0 e).2.entries in
    let f = not-placed-few o fs in
    (omega arith, not-placed-below o fs bounds.entries h)

-- so is the list of any two texts
pub list-in-bounds : (tree : Outcome Pattern) (filters : Bytes) → (length (not_placed_read tree filters) ≤ bounds.entries) × (all (λ k. ltb k bounds.entries) (not_placed_read tree filters) ≡ true)
unfolding all
list-in-bounds tree filters = go tree (read_filters filters) refl
  where
    go : (t : Outcome Pattern) (r : Outcome (List Filter)) → read_filters filters ≡ r
        → (length (none_or t λ p. none_or r λ fs. not_placed (outermost_projection p) fs) ≤ bounds.entries) × (all (λ k. ltb k bounds.entries) (none_or t λ p. none_or r λ fs. not_placed (outermost_projection p) fs) ≡ true)
    go (refuses n) r e = (omega arith, refl)
    go (reads p) (refuses n) e = (omega arith, refl)
    go (reads p) (reads fs) e = listed-in-bounds (outermost_projection p) filters fs e
