-- Laws of digits, tags and pieces, one for each step of the code. Assumes nothing.
use Prim.Native.Nat.{ℕ, zero, suc, ◌+◌, ◌-◌, ◌*◌, ◌≤◌, ◌<◌}
use mathlib.Core.Path.{◌≡◌, refl, sym, ◌∙◌, ap}
use mathlib.Core.List.{List, [], ◌∷◌}
use mathlib.Core.Bool.{Bool, true, false, cond, not, ◌&&◌, ◌||◌}
use mathlib.Core.Option.{Option, none, some}
use native.Mathlib.Numerals.{add-one}
use native.Mathlib.Nat.{sub-zero}
use native.Mathlib.Omega.{arith}
use lib.ListN.{length, get_or, take, drop, drop_of_length-le, length-drop}
use lib.Seq.{drop-cons, take_all, take-nil, get_or-drop}
use lib.Dec.{leb, eqb}
use borrow.Author.Tests.{le-leb, lt-leb, eq-eqb, ne_eqb, not-true, not-false}
use Rattle.text.specs.bridge.Code.{Number, number_in, kinds, kind_at}
use Rattle.text.specs.Text.{Bytes, piece}
use Rattle.text.specs.Field.{digits_of, number_of, given, small, is_region, third, is_tag, Kind, form, is_kind}
use Rattle.std.specs.Prelude.{Some, None}

-- ---- integers

pub digits-next : (f : Bytes) (i n : ℕ) → i < length f → digits_of n (drop i f) ≡ cond (leb 48 (get_or f i 0) && (leb (get_or f i 0) 57 && leb (n * 10 + (get_or f i 0 - 48)) 4294967295)) (digits_of (n * 10 + (get_or f i 0 - 48)) (drop (i + 1) f)) none
unfolding digits_of
digits-next f i n h = rw (add-one, drop-cons f i 0 h)

pub digits-end : (f : Bytes) (i n : ℕ) → length f ≤ i → digits_of n (drop i f) ≡ some n
unfolding digits_of
digits-end f i n h = rw (drop_of_length-le f h)

pub number-empty : (f : Bytes) → length f ≡ 0 → none ≡ number_of f
unfolding number_of
number-empty [] h = refl
number-empty (x ∷ xs) h = absurd (omega arith)

pub number-one : (f : Bytes) (r : Number) → length f ≡ 1 → number_in r ≡ digits_of 0 f → number_in r ≡ number_of f
unfolding number_of
number-one [] r h e = absurd (omega arith)
number-one (x ∷ []) r h e = e
number-one (x ∷ y ∷ ys) r h e = absurd (omega arith)

pub number-zero : (f : Bytes) → (length f ≡ 0 → ⊥) → (length f ≡ 1 → ⊥) → get_or f 0 0 ≡ 48 → none ≡ number_of f
unfolding number_of
number-zero [] h k e = absurd (h refl)
number-zero (x ∷ []) h k e = absurd (k refl)
number-zero (x ∷ y ∷ ys) h k e = rw (eq-eqb x 48 e)

pub number-many : (f : Bytes) (r : Number) → (length f ≡ 0 → ⊥) → (length f ≡ 1 → ⊥) → (get_or f 0 0 ≡ 48 → ⊥) → number_in r ≡ digits_of 0 f → number_in r ≡ number_of f
unfolding number_of
number-many [] r h k e q = absurd (h refl)
number-many (x ∷ []) r h k e q = absurd (k refl)
number-many (x ∷ y ∷ ys) r h k e q = rw (ne_eqb x 48 e) q

pub number-given : (f : Bytes) (r : Number) (n : ℕ) → number_in r ≡ number_of f → r ≡ Some n → true ≡ given (number_of f)
number-given f r n h e = rw (← h, e)

pub number-absent : (f : Bytes) (r : Number) → number_in r ≡ number_of f → r ≡ None → false ≡ given (number_of f)
number-absent f r h e = rw (← h, e)

-- ---- language tags

pub region-none : (f : Bytes) (at : ℕ) → length f ≤ at → true ≡ is_region (drop at f)
unfolding is_region
region-none f at h = rw (drop_of_length-le f h)

module _ (f : Bytes) (at : ℕ) (less : at < length f) where
  long : (length (drop at f) ≡ 0 → ⊥)
  long e = let q = length-drop at f in omega arith

  pub region-long : (length f - at ≡ 3 → ⊥) → false ≡ is_region (drop at f)
  unfolding is_region
  region-long h =
      let q = length-drop at f in
      let n : length (drop at f) ≡ 3 → ⊥ = λ e. h (omega arith) in
      rw (ne_eqb (length (drop at f)) 0 long, ne_eqb (length (drop at f)) 3 n)

  pub region-is : (b : Bool) → length f - at ≡ 3 → b ≡ (eqb (get_or f at 0) 45 && (small (get_or f (at + 1) 0) && small (get_or f (at + 2) 0))) → b ≡ is_region (drop at f)
  unfolding is_region
  region-is b h e =
      let q = length-drop at f in
      let n : length (drop at f) ≡ 3 = omega arith in
      let z : at + 0 ≡ at = omega arith in
      e ∙ rw (ne_eqb (length (drop at f)) 0 long, eq-eqb (length (drop at f)) 3 n, get_or-drop at f 0, get_or-drop at f 1, get_or-drop at f 2, z)

pub tag-short : (f : Bytes) → length f < 2 → false ≡ is_tag f
unfolding is_tag
tag-short [] h = refl
tag-short (x ∷ []) h = refl
tag-short (x ∷ y ∷ ys) h = absurd (omega arith)

pub tag_is : (f : Bytes) (b : Bool) → 2 ≤ length f → b ≡ (small (get_or f 0 0) && (small (get_or f 1 0) && (is_region (drop 2 f) || third (drop 2 f)))) → b ≡ is_tag f
unfolding is_tag
tag_is [] b h e = absurd (omega arith)
tag_is (x ∷ []) b h e = absurd (omega arith)
tag_is (x ∷ y ∷ ys) b h e = e

-- what follows the two letters: no region, and then a third letter or none
module _ (f : Bytes) (r : Bool) (region : r ≡ is_region (drop 2 f)) (none : r ≡ false) where
  pub third-none : length f < 3 → false ≡ (is_region (drop 2 f) || third (drop 2 f))
  third-none h = let k : length f ≤ 2 = omega arith in rw (sym region ∙ none, drop_of_length-le f k)

  third-is : (g : Bytes) → 3 ≤ length g → third (drop 2 g) ≡ (small (get_or g 2 0) && is_region (drop 3 g))
  third-is [] h = absurd (omega arith)
  third-is (x ∷ []) h = absurd (omega arith)
  third-is (x ∷ y ∷ []) h = absurd (omega arith)
  third-is (x ∷ y ∷ z ∷ zs) h = refl

  pub third-large : (b : Bool) → 3 ≤ length f → b ≡ small (get_or f 2 0) → not b ≡ true → false ≡ (is_region (drop 2 f) || third (drop 2 f))
  third-large b h e n = rw (sym region ∙ none, third-is f h, sym e ∙ not-true b n)

  pub third-small : (b c : Bool) → 3 ≤ length f → b ≡ small (get_or f 2 0) → not b ≡ false → c ≡ is_region (drop 3 f) → c ≡ (is_region (drop 2 f) || third (drop 2 f))
  third-small b c h e n q = rw (sym region ∙ none, third-is f h, sym e ∙ not-false b n, q)

-- ---- pieces

pub piece-past : (s : Bytes) (from size : ℕ) → length s < from → [] ≡ piece from size s
piece-past s from size h = let k : length s ≤ from = omega arith in rw (drop_of_length-le s k) (sym (take-nil size))

pub piece-end : (s : Bytes) (from size : ℕ) → length s - from < size → take (length s - from) (drop from s) ≡ piece from size s
piece-end s from size h =
    let q = length-drop from s in
    take_all (length s - from) (drop from s) (omega arith) ∙ sym (take_all size (drop from s) (omega arith))

-- ---- kinds by their numbers

pub kind-is : (k j : ℕ) (f : Bytes) (b : Bool) → k ≡ j → b ≡ is_kind (kind_at j) f → b ≡ is_kind (kind_at k) f
kind-is k j f b h e = e ∙ ap (λ (i : ℕ). is_kind (kind_at i) f) (sym h)

pub kind-last : (k : ℕ) (f : Bytes) (b : Bool) → 14 ≤ k → b ≡ is_kind form f → b ≡ is_kind (kind_at k) f
kind-last k f b h e = e ∙ ap (λ (x : Kind). is_kind x f) (sym (past kinds k form h))
  where
    past : (l : List Kind) (i : ℕ) (d : Kind) → length l ≤ i → get_or l i d ≡ d
    past [] i d h = refl
    past (x ∷ l) zero d h = absurd (omega arith)
    past (x ∷ l) (suc i) d h = past l i d (omega arith)
