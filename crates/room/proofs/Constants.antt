-- Columns that carry a constant stand in the Values in place of the projection, and a constant's term once in the row. Assumes nothing.
use Prim.Native.Nat.{ℕ, suc, ◌+◌, ◌-◌, ◌*◌, ◌≤◌, ◌<◌}
use mathlib.Core.Path.{◌≡◌, refl, sym, ap, ◌∙◌}
use mathlib.Core.Bool.{Bool, true, false, cond, not, ◌||◌, true≢false}
use mathlib.Core.List.{List, [], ◌∷◌}
use native.Mathlib.Omega.{arith}
use lib.ListN.{length}
use lib.Dec.{eqb, ltb}
use borrow.Author.Tests.{eqb-true, eqb-false, ltb-true}
use Rattle.text.specs.Text.{Bytes}
use Rattle.text.proofs.Basics.{and_left, and_right}
use Rattle.algebra.proofs.Lines.{not-no}
use Rattle.algebra.specs.Query as Query
use Rattle.algebra.specs.Query.{constants}
use Rattle.algebra.specs.Layout.{put_pairs}
use Rattle.algebra.specs.Reader.{reads}
use Rattle.algebra.specs.Bounded.{layout_pairs}
use Rattle.algebra.specs.Texts.{read_pairs}
use Rattle.algebra.specs.Valid.{ValidPairs}
use Rattle.algebra.proofs.Theorem.{pairs-exactly}
use Rattle.scoping.specs.Sets.{all, any}
use Rattle.scoping.specs.Premises.{inside, different_positions}
use Rattle.merging.specs.Names.{is_at}
use Rattle.merging.specs.Sides.{Constant, column_at, constant_columns, constant_terms, without_constants}
use Rattle.merging.specs.Request.{position, constants_in, placed, by_position, positions, read_constants}
use Rattle.merging.proofs.Given.{made_reads}
use Rattle.merging.proofs.Lists.{sorted-length, map-length}
use Rattle.merging.proofs.Positions.{at-sym}
use Rattle.walking.proofs.Sizes.{width, size, text-size}
use Rattle.walking.proofs.Fields.{integer-some}

-- ---- columns

-- none goes
all_stay : (i : ℕ) (cs : List Bytes) → width (without_constants i cs []) ≡ width cs
unfolding without_constants any width
all_stay i [] = refl
all_stay i (c ∷ cs) = ap (λ (n : ℕ). suc (length c) + n) (all_stay (suc i) cs)

-- one goes, or none
fewer : (k : Constant) (ks : List Constant) (i : ℕ) (cs : List Bytes) → width (without_constants i cs (k ∷ ks)) ≤ width (without_constants i cs ks)
unfolding without_constants any width
fewer k ks i [] = omega arith
fewer k ks i (c ∷ cs) = go (eqb k.position i) (any (λ x. eqb x.position i) ks) (fewer k ks (suc i) cs)
  where
    go : (s t : Bool) → width (without_constants (suc i) cs (k ∷ ks)) ≤ width (without_constants (suc i) cs ks)
        → width (cond (s || t) (without_constants (suc i) cs (k ∷ ks)) (c ∷ without_constants (suc i) cs (k ∷ ks))) ≤ width (cond t (without_constants (suc i) cs ks) (c ∷ without_constants (suc i) cs ks))
    go true true h = h
    go true false h = omega arith
    go false true h = h
    go false false h = omega arith

-- one goes
one_fewer : (k : Constant) (ks : List Constant) → is_at k.position (positions ks) ≡ false → (i : ℕ) (cs : List Bytes) → i ≤ k.position → k.position < i + length cs
    → width (without_constants i cs (k ∷ ks)) + suc (length (column_at cs (k.position - i))) ≤ width (without_constants i cs ks)
unfolding without_constants any width
one_fewer k ks d i [] a b = absurd (omega arith)
one_fewer k ks d i (c ∷ cs) a b = go (eqb k.position i) refl (any (λ x. eqb x.position i) ks) refl (fewer k ks (suc i) cs) (one_fewer k ks d (suc i) cs)
  where
    go : (s : Bool) → eqb k.position i ≡ s → (t : Bool) → any (λ x. eqb x.position i) ks ≡ t
        → width (without_constants (suc i) cs (k ∷ ks)) ≤ width (without_constants (suc i) cs ks)
        → (suc i ≤ k.position → k.position < suc i + length cs → width (without_constants (suc i) cs (k ∷ ks)) + suc (length (column_at cs (k.position - suc i))) ≤ width (without_constants (suc i) cs ks))
        → width (cond (s || t) (without_constants (suc i) cs (k ∷ ks)) (c ∷ without_constants (suc i) cs (k ∷ ks))) + suc (length (column_at (c ∷ cs) (k.position - i))) ≤ width (cond t (without_constants (suc i) cs ks) (c ∷ without_constants (suc i) cs ks))
    go true e true j h r = absurd (true≢false (sym j ∙ at-sym i ks ∙ ap (λ (n : ℕ). is_at n (positions ks)) (sym (eqb-true k.position i e)) ∙ d))
    go true e false j h r =
        let here : k.position - i ≡ 0 = omega (arith, eqb-true k.position i e) in
        omega (arith, ap (λ (n : ℕ). length (column_at (c ∷ cs) n)) here)
    go false e t j h r =
        let other = eqb-false k.position i e in
        let past : suc i ≤ k.position = omega arith in
        let there : k.position - i ≡ suc (k.position - suc i) = omega arith in
        let z = ap (λ (n : ℕ). length (column_at (c ∷ cs) n)) there in
        let m = r past (omega arith) in
        stays t (omega arith)
      where
        stays : (t : Bool) → width (without_constants (suc i) cs (k ∷ ks)) + suc (length (column_at (c ∷ cs) (k.position - i))) ≤ width (without_constants (suc i) cs ks)
            → width (cond t (without_constants (suc i) cs (k ∷ ks)) (c ∷ without_constants (suc i) cs (k ∷ ks))) + suc (length (column_at (c ∷ cs) (k.position - i))) ≤ width (cond t (without_constants (suc i) cs ks) (c ∷ without_constants (suc i) cs ks))
        stays true x = x
        stays false x = omega arith

column-from : (k : Constant) (cs : List Bytes) → length (column_at cs (k.position - 0)) ≡ length (column_at cs k.position)
column-from k cs = ap (λ (n : ℕ). length (column_at cs n)) (let z : k.position - 0 ≡ k.position = omega arith in z)

pub parted-width : (cs : List Bytes) (ks : List Constant) → inside cs (positions ks) ≡ true → different_positions (positions ks) ≡ true → width (without_constants 0 cs ks) + width (constant_columns cs ks) ≤ width cs
unfolding inside all different_positions is_at width
parted-width cs [] h d = omega (arith, all_stay 0 cs)
parted-width cs (k ∷ ks) h d =
    let free : is_at k.position (positions ks) ≡ false = not-no (any (eqb k.position) (positions ks)) (and_left (not (any (eqb k.position) (positions ks))) (different_positions (positions ks)) d) in
    let below : k.position < length cs = ltb-true k.position (length cs) (and_left (ltb k.position (length cs)) (all (λ i. ltb i (length cs)) (positions ks)) h) in
    let r = parted-width cs ks (and_right (ltb k.position (length cs)) (all (λ i. ltb i (length cs)) (positions ks)) h) (and_right (not (any (eqb k.position) (positions ks))) (different_positions (positions ks)) d) in
    omega (arith, one_fewer k ks free 0 cs (omega arith) (omega arith), column-from k cs)

-- ---- terms

placed-width : (k : Constant) (ks : List Constant) → width (constant_terms (placed k ks)) ≡ suc (length k.term) + width (constant_terms ks)
unfolding placed width
placed-width k [] = refl
placed-width k (x ∷ xs) = go (ltb k.position x.position) (placed-width k xs)
  where
    go : (t : Bool) → width (constant_terms (placed k xs)) ≡ suc (length k.term) + width (constant_terms xs) → width (constant_terms (cond t (k ∷ x ∷ xs) (x ∷ placed k xs))) ≡ suc (length k.term) + (suc (length x.term) + width (constant_terms xs))
    go true h = refl
    go false h = omega arith

sorted-width : (ks : List Constant) → width (constant_terms (by_position ks)) ≡ width (constant_terms ks)
unfolding by_position width
sorted-width [] = refl
sorted-width (k ∷ ks) = omega (arith, placed-width k (by_position ks), sorted-width ks)

-- each stands behind its position
terms-width : (seen : List Bytes) (xs : List Query.Pair) → ValidPairs constants seen xs → width (constant_terms (constants_in xs)) + 2 * length xs ≤ size (put_pairs xs [])
unfolding ValidPairs put_pairs size width
terms-width seen [] v = omega arith
terms-width seen (x ∷ xs) v = omega (arith, integer-some x.first v.0, terms-width _ xs v.3)

-- a text of constants has room for their terms and two bytes more for each
pub terms-short : (s : Bytes) (ks : List Constant) → read_constants s ≡ reads ks → width (constant_terms ks) + 2 * length ks ≤ length s
unfolding read_constants layout_pairs
terms-short s ks e =
    let x = made_reads (λ xs. by_position (constants_in xs)) (read_pairs constants s) ks e in
    let y = (pairs-exactly constants s x.0).0 x.1 in
    let many : length ks ≡ length x.0 = omega (arith, ap length x.2, sorted-length (constants_in x.0), map-length {B = Constant} (λ (p : Query.Pair). record { position = position p.first; term = p.second }) x.0) in
    omega (arith, ap (λ (l : List Constant). width (constant_terms l)) x.2, sorted-width (constants_in x.0), terms-width [] x.0 y.1, text-size (put_pairs x.0 []), ap length y.0)
