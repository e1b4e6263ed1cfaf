-- Columns and terms that masks and positions pick are those that the merge's definitions name. Assumes nothing.
use Prim.Native.Nat.{ℕ, zero, suc, ◌+◌, ◌/◌, ◌%◌, ◌≤◌, ◌<◌}
use mathlib.Core.Path.{◌≡◌, refl, sym, ap, ap₂, ◌∙◌}
use mathlib.Core.List.{List, [], ◌∷◌, ◌++◌, map}
use mathlib.Core.Bool.{Bool, true, false, cond, not, ◌&&◌, ◌||◌, true≢false}
use native.Mathlib.Nat.{mod-lt}
use native.Mathlib.Omega.{arith}
use lib.ListN.{length, get_or, drop}
use lib.Dec.{eqb, ltb}
use borrow.Author.Tests.{eq-eqb, eqb-true, lt-ltb, ltb-true}
use Rattle.text.specs.Text.{Bytes}
use Rattle.text.proofs.Basics.{and_left, and_right}
use Rattle.algebra.specs.Query as Query
use Rattle.algebra.specs.Valid.{mem}
use Rattle.algebra.specs.Tally.{bounds}
use Rattle.scoping.specs.Sets.{all, any, keep}
use Rattle.scoping.specs.Premises.{different_positions}
use Rattle.merging.specs.Sides.{Constant, constant_columns, constant_terms, without_constants}
use Rattle.merging.specs.Request.{position, positions, by_position, constants_in}
use Rattle.merging.specs.Names.{from, is_at, place_in}
use Rattle.merging.proofs.Lists.{sorted-any}
use Rattle.merging.proofs.Positions.{at-sym}
use Rattle.merging.proofs.Rising.{term_at, constant_at, rising}
use Rattle.mask.specs.bridge.Mask.{mask_of}
use Rattle.columns.specs.bridge.Columns.{picked, gone_bits}
use Rattle.columns.specs.bridge.Listed.{positions_in, second_of, terms_from}
use Rattle.sides.specs.bridge.Side.{mask_at}
use Rattle.columns.proofs.Picked.{picked_none}
use Rattle.columns.proofs.Counted.{picked-one, picked-zero}

-- ---- columns at positions

module _ (t : ℕ → Bool) (g : ℕ → Bytes) where
  abbrev Agree : List Bytes → ℕ → Type 0
  Agree ds k = (i : ℕ) → i < length ds → get_or ds i [] ≡ g (k + i)

  picked-at : (ds : List Bytes) (k : ℕ) → Agree ds k → picked 1 (mask_of (map t (from k (length ds)))) ds ≡ map g (keep t (from k (length ds)))
  unfolding from keep
  picked-at [] k h = picked_none 1 _ [] refl
  picked-at (d ∷ ds) k h =
      picked-one (t k) (map t (from (suc k) (length ds))) d ds
      ∙ go (t k) (let z : k + 0 ≡ k = omega arith in h 0 (omega arith) ∙ ap g z) (picked-at ds (suc k) (λ i l. let z : k + suc i ≡ suc k + i = omega arith in h (suc i) (omega arith) ∙ ap g z))
    where
      go : (b : Bool) → d ≡ g k → picked 1 (mask_of (map t (from (suc k) (length ds)))) ds ≡ map g (keep t (from (suc k) (length ds)))
          → cond b (d ∷ picked 1 (mask_of (map t (from (suc k) (length ds)))) ds) (picked 1 (mask_of (map t (from (suc k) (length ds)))) ds) ≡ map g (cond b (k ∷ keep t (from (suc k) (length ds))) (keep t (from (suc k) (length ds))))
      go true e r = ap₂ ◌∷◌ e r
      go false e r = r

pub picked-positions : (ps : List ℕ) (ds : List Bytes) → picked 1 (mask_at ps (length ds)) ds ≡ map (λ i. get_or ds i []) (keep (λ i. is_at i ps) (from 0 (length ds)))
picked-positions ps ds = picked-at (λ i. is_at i ps) (λ i. get_or ds i []) ds 0 (λ i l. let z : i ≡ 0 + i = omega arith in ap (λ (j : ℕ). get_or ds j []) z)

-- those that carry no constant
free-at : (ps : List ℕ) (ks : List Constant) → ((i : ℕ) → any (λ k. eqb k.position i) ks ≡ is_at i ps) → (ds : List Bytes) (k : ℕ)
    → picked 0 (mask_of (map (λ i. is_at i ps) (from k (length ds)))) ds ≡ without_constants k ds ks
unfolding from without_constants
free-at ps ks h [] k = picked_none 0 _ [] refl
free-at ps ks h (d ∷ ds) k =
    picked-zero (is_at k ps) (map (λ i. is_at i ps) (from (suc k) (length ds))) d ds
    ∙ ap₂ (λ (b : Bool) (l : List Bytes). cond b l (d ∷ l)) (sym (h k)) (free-at ps ks h ds (suc k))

-- ---- a constant list

pub positions-are : (xs : List Query.Pair) → positions (constants_in xs) ≡ positions_in false xs
positions-are [] = refl
positions-are (x ∷ xs) = ap (λ (l : List ℕ). position x.first ∷ l) (positions-are xs)

any-position : (xs : List Query.Pair) (i : ℕ) → any (λ k. eqb k.position i) (by_position (constants_in xs)) ≡ is_at i (positions_in false xs)
unfolding is_at
any-position xs i = at-sym i (by_position (constants_in xs)) ∙ sorted-any i (constants_in xs) ∙ ap (any (eqb i)) (positions-are xs)

pub free-columns : (xs : List Query.Pair) (ds : List Bytes) → picked 0 (mask_at (positions_in false xs) (length ds)) ds ≡ without_constants 0 ds (by_position (constants_in xs))
free-columns xs ds = free-at (positions_in false xs) (by_position (constants_in xs)) (any-position xs) ds 0

module _ (xs : List Query.Pair) (different : different_positions (positions_in false xs) ≡ true) where
  rises : (n : ℕ) → all (λ i. ltb i n) (positions_in false xs) ≡ true → by_position (constants_in xs) ≡ map (constant_at (constants_in xs)) (keep (λ i. is_at i (positions_in false xs)) (from 0 n))
  rises n h =
      rising n (constants_in xs) (ap (all (λ i. ltb i n)) (positions-are xs) ∙ h) (ap different_positions (positions-are xs) ∙ different)
      ∙ ap (λ (ps : List ℕ). map (constant_at (constants_in xs)) (keep (λ i. is_at i ps) (from 0 n))) (positions-are xs)

  pub constant-columns : (ds : List Bytes) → all (λ i. ltb i (length ds)) (positions_in false xs) ≡ true → picked 1 (mask_at (positions_in false xs) (length ds)) ds ≡ constant_columns ds (by_position (constants_in xs))
  constant-columns ds h =
      picked-positions (positions_in false xs) ds
      ∙ go (keep (λ i. is_at i (positions_in false xs)) (from 0 (length ds)))
      ∙ ap (constant_columns ds) (sym (rises (length ds) h))
    where
      go : (is : List ℕ) → map (λ i. get_or ds i []) is ≡ constant_columns ds (map (constant_at (constants_in xs)) is)
      go [] = refl
      go (i ∷ is) = ap (λ (l : List Bytes). get_or ds i [] ∷ l) (go is)

-- the term of a position, by its place
term-place : (xs : List Query.Pair) (i : ℕ) → second_of (drop (place_in i (positions_in false xs)) xs) ≡ cond (is_at i (positions_in false xs)) (term_at i (constants_in xs) ∷ []) []
unfolding place_in is_at any term_at
term-place [] i = refl
term-place (x ∷ xs) i = go (eqb i (position x.first)) (term-place xs i)
  where
    go : (t : Bool) → second_of (drop (place_in i (positions_in false xs)) xs) ≡ cond (is_at i (positions_in false xs)) (term_at i (constants_in xs) ∷ []) []
        → second_of (drop (cond t 0 (suc (place_in i (positions_in false xs)))) (x ∷ xs)) ≡ cond (t || is_at i (positions_in false xs)) (cond t x.second (term_at i (constants_in xs)) ∷ []) []
    go true e = refl
    go false e = e

terms-at : (xs : List Query.Pair) (n i : ℕ) → terms_from xs i n ≡ map (λ j. term_at j (constants_in xs)) (keep (λ j. is_at j (positions_in false xs)) (from i n))
unfolding terms_from from keep
terms-at xs zero i = refl
terms-at xs (suc n) i = ap₂ ◌++◌ (term-place xs i) (terms-at xs n (suc i)) ∙ go (is_at i (positions_in false xs))
  where
    go : (t : Bool) → cond t (term_at i (constants_in xs) ∷ []) [] ++ map (λ j. term_at j (constants_in xs)) (keep (λ j. is_at j (positions_in false xs)) (from (suc i) n))
        ≡ map (λ j. term_at j (constants_in xs)) (cond t (i ∷ keep (λ j. is_at j (positions_in false xs)) (from (suc i) n)) (keep (λ j. is_at j (positions_in false xs)) (from (suc i) n)))
    go true = refl
    go false = refl

below_more : (ps : List ℕ) (a b : ℕ) → a ≤ b → all (λ i. ltb i a) ps ≡ true → all (λ i. ltb i b) ps ≡ true
unfolding all
below_more [] a b h e = refl
below_more (p ∷ ps) a b h e =
    let l = ltb-true p a (and_left (ltb p a) (all (λ i. ltb i a) ps) e) in
    ap₂ ◌&&◌ (lt-ltb p b (omega arith)) (below_more ps a b h (and_right (ltb p a) (all (λ i. ltb i a) ps) e))

pub constant-terms : (xs : List Query.Pair) → different_positions (positions_in false xs) ≡ true → (n : ℕ) → n ≤ bounds.columns → all (λ i. ltb i n) (positions_in false xs) ≡ true → terms_from xs 0 bounds.columns ≡ constant_terms (by_position (constants_in xs))
constant-terms xs d n l h =
    terms-at xs bounds.columns 0
    ∙ go (keep (λ i. is_at i (positions_in false xs)) (from 0 bounds.columns))
    ∙ ap constant_terms (sym (rises xs d bounds.columns (below_more (positions_in false xs) n bounds.columns l h)))
  where
    go : (is : List ℕ) → map (λ i. term_at i (constants_in xs)) is ≡ constant_terms (map (constant_at (constants_in xs)) is)
    go [] = refl
    go (i ∷ is) = ap (λ (l : List Bytes). term_at i (constants_in xs) ∷ l) (go is)

-- ---- columns that the other side has

even_odd : (m : ℕ) (b : Bool) → eqb (m % 2) 1 ≡ b → eqb (m % 2) 0 ≡ not b
even_odd m true e = let z : m % 2 ≡ 1 = eqb-true (m % 2) 1 e in rw z
even_odd m false e = let l : m % 2 < 2 = mod-lt m (omega arith) in let z : m % 2 ≡ 1 → ⊥ = λ (q : m % 2 ≡ 1). true≢false (sym (eq-eqb (m % 2) 1 q) ∙ e) in let y : m % 2 ≡ 0 = omega arith in rw y

pub picked-gone : (js ds : List Bytes) (m : ℕ) → picked 0 (mask_of (gone_bits m js ds)) ds ≡ keep (λ c. not (mem c js)) (picked 0 m ds)
unfolding gone_bits picked keep
picked-gone js [] m = refl
picked-gone js (d ∷ ds) m =
    picked-zero (eqb (m % 2) 1 || mem d js) (gone_bits (m / 2) js ds) d ds
    ∙ go (eqb (m % 2) 1) refl (mem d js) refl (picked-gone js ds (m / 2))
  where
    go : (b : Bool) → eqb (m % 2) 1 ≡ b → (c : Bool) → mem d js ≡ c → picked 0 (mask_of (gone_bits (m / 2) js ds)) ds ≡ keep (λ c. not (mem c js)) (picked 0 (m / 2) ds)
        → cond (b || c) (picked 0 (mask_of (gone_bits (m / 2) js ds)) ds) (d ∷ picked 0 (mask_of (gone_bits (m / 2) js ds)) ds) ≡ keep (λ c. not (mem c js)) (cond (eqb (m % 2) 0) (d ∷ picked 0 (m / 2) ds) (picked 0 (m / 2) ds))
    go true e c q r = r ∙ ap (λ (z : Bool). keep (λ c. not (mem c js)) (cond z (d ∷ picked 0 (m / 2) ds) (picked 0 (m / 2) ds))) (sym (even_odd m true e))
    go false e true q r = r ∙ ap (λ (z : Bool). cond (not z) (d ∷ keep (λ c. not (mem c js)) (picked 0 (m / 2) ds)) (keep (λ c. not (mem c js)) (picked 0 (m / 2) ds))) (sym q) ∙ ap (λ (z : Bool). keep (λ c. not (mem c js)) (cond z (d ∷ picked 0 (m / 2) ds) (picked 0 (m / 2) ds))) (sym (even_odd m false e))
    go false e false q r = ap (λ (l : List Bytes). d ∷ l) r ∙ ap (λ (z : Bool). cond (not z) (d ∷ keep (λ c. not (mem c js)) (picked 0 (m / 2) ds)) (keep (λ c. not (mem c js)) (picked 0 (m / 2) ds))) (sym q) ∙ ap (λ (z : Bool). keep (λ c. not (mem c js)) (cond z (d ∷ picked 0 (m / 2) ds) (picked 0 (m / 2) ds))) (sym (even_odd m false e))
