-- A row by the key of its word is the row of the word. Assumes nothing.
use Prim.Native.Nat.{ℕ, zero, suc, ◌+◌, ◌-◌, ◌≤◌}
use mathlib.Core.Path.{◌≡◌, refl, sym, ◌∙◌, ap}
use mathlib.Core.Bool.{Bool, true, false, cond, not, ◌&&◌}
use mathlib.Core.List.{List, [], ◌∷◌}
use mathlib.Core.Option.{some}
use native.Mathlib.Omega.{arith}
use lib.Dec.{eqb, leb, ltb}
use lib.ListN.{length, get_or}
use borrow.Author.Tests.{leb-true, ltb-true, eqb-false, eq-eqb, ne_eqb, not-true}
use Rattle.text.specs.Text.{Bytes, same}
use Rattle.text.proofs.Basics.{and_left, and_right, same-eq}
use Rattle.algebra.specs.Valid.{mem}
use Rattle.algebra.specs.bridge.Table.{Row, Entry, Sort, triples, columns, patterns, expressions, rows, orders, aggregates, heads, sets, positions, value_rows, parts, rows_of, table, row_in, row_for}
use Rattle.words.specs.bridge.Code.{Found, sort_at, row_of, row_found, flag_of, Flags}
use Rattle.words.specs.bridge.Key.{key_of, Small, Told, Keyed, key_in, row_by, flag_by, Flagged}
use Rattle.std.specs.Prelude.{Some, None}

-- ---- every word of the table is one that a key tells

unfoldable pub small : Bytes → Bool
small [] = true
small (x ∷ xs) = ltb x 256 && small xs

unfoldable pub tells : Bytes → Bool
unfolding small
tells w = not (eqb (get_or w 0 0) 0) && (leb (length w) 8 && small w)

all_tell : List Entry → Bool
unfolding tells
all_tell [] = true
all_tell (e ∷ es) = tells e.word && all_tell es

words-tell : (s : Sort) → all_tell (rows_of s) ≡ true
unfolding all_tell
words-tell triples = refl
words-tell columns = refl
words-tell patterns = refl
words-tell expressions = refl
words-tell rows = refl
words-tell orders = refl
words-tell aggregates = refl
words-tell heads = refl
words-tell sets = refl
words-tell positions = refl
words-tell value_rows = refl
words-tell parts = refl

all_tell_lem : all_tell table ≡ true
unfolding all_tell table
all_tell_lem = refl

small_is : (f : Bytes) → small f ≡ true → Small f
unfolding small
small_is [] h = tt
small_is (x ∷ xs) h = (ltb-true x 256 (and_left (ltb x 256) (small xs) h), small_is xs (and_right (ltb x 256) (small xs) h))

pub told : (w : Bytes) → tells w ≡ true → Told w
unfolding tells
told w h =
    let r = and_right (not (eqb (get_or w 0 0) 0)) (leb (length w) 8 && small w) h in record {
      first = eqb-false (get_or w 0 0) 0 (not-true _ (and_left (not (eqb (get_or w 0 0) 0)) (leb (length w) 8 && small w) h));
      long = leb-true (length w) 8 (and_left (leb (length w) 8) (small w) r);
      small = small_is w (and_right (leb (length w) 8) (small w) r);
    }

-- ---- the search by keys

by_key : (es : List Entry) (f : Bytes) (k : ℕ) → all_tell es ≡ true → Keyed f k → row_in es f ≡ row_by k es
unfolding all_tell row_in row_by
by_key [] f k h t = refl
by_key (e ∷ es) f k h t =
    rw (t e.word (told e.word (and_left (tells e.word) (all_tell es) h)), by_key es f k (and_right (tells e.word) (all_tell es) h) t) refl

-- the row by a field's key is the field's
pub row-by-key : (s : ℕ) (f : Bytes) (k : ℕ) → Keyed f k → row_by k (rows_of (sort_at s)) ≡ row_for (sort_at s) f
row-by-key s f k t = sym (by_key (rows_of (sort_at s)) f k (words-tell (sort_at s)) t)

-- whatever its sort
pub row-by-any : (f : Bytes) (k : ℕ) → Keyed f k → row_by k table ≡ row_in table f
row-by-any f k t = sym (by_key table f k all_tell_lem t)

-- what the key tells of the names is what the word does
flag_is : (es : List Entry) (f : Bytes) (k : ℕ) (r : Row) → all_tell es ≡ true → Keyed f k → some r ≡ row_by k es → flag_by k es ≡ flag_of f
unfolding all_tell row_by flag_by
flag_is [] f k r h t q = let z : ◌≡◌ {A = ℕ} 0 1 = cc in absurd (omega arith)
flag_is (e ∷ es) f k r h t q = go (eqb k (key_of 0 e.word)) refl (λ w. flag_is es f k r (and_right (tells e.word) (all_tell es) h) t w) q
  where
    go : (b : Bool) → eqb k (key_of 0 e.word) ≡ b → (some r ≡ row_by k es → flag_by k es ≡ flag_of f) → some r ≡ cond b (some e.row) (row_by k es) → cond b (flag_of e.word) (flag_by k es) ≡ flag_of f
    go true p on w = ap flag_of (sym (same-eq f e.word (t e.word (told e.word (and_left (tells e.word) (all_tell es) h)) ∙ p)))
    go false p on w = on w

pub flag-by-key : (s : ℕ) (f : Bytes) (k : ℕ) (r : Found) → Keyed f k → row_found r ≡ row_by k (rows_of (sort_at s)) → Flagged k (rows_of (sort_at s)) r → Flags f r
flag-by-key s f k (Some c) t w q = q ∙ flag_is (rows_of (sort_at s)) f k (row_of c) (words-tell (sort_at s)) t w
flag-by-key s f k None t w q = tt

-- ---- numbers that are told apart

-- s is none of the n numbers from i on, behind what is known already
abbrev pub Past : ℕ → ℕ → ℕ → Type 0 → Type 0
Past s i zero B = B
Past s i (suc n) B = Past s (suc i) n (B × (s ≡ i → ⊥))

known : (s i n : ℕ) (B : Type 0) → Past s i n B → B
known s i zero B h = h
known s i (suc n) B h = (known s (suc i) n (B × (s ≡ i → ⊥)) h).0

pub past : (s i n : ℕ) (B : Type 0) → i ≤ s → Past s i n B → i + n ≤ s
past s i zero B l h = omega arith
past s i (suc n) B l h =
    let other : s ≡ i → ⊥ = (known s (suc i) n (B × (s ≡ i → ⊥)) h).1 in
    let more : suc i ≤ s = omega arith in
    let far : suc i + n ≤ s = past s (suc i) n (B × (s ≡ i → ⊥)) more h in
    omega arith

-- ---- words that are tested by their keys

module _ (f : Bytes) (k : ℕ) (h : Keyed f k) (w : Bytes) (t : tells w ≡ true) where
  pub same_key : k ≡ key_of 0 w → same f w ≡ true
  same_key e = h w (told w t) ∙ eq-eqb k (key_of 0 w) e

  pub is_word : k ≡ key_of 0 w → f ≡ w
  is_word e = same-eq f w (same_key e)

  pub other_key : (k ≡ key_of 0 w → ⊥) → same f w ≡ false
  other_key n = h w (told w t) ∙ ne_eqb k (key_of 0 w) n

unfoldable pub all_words : List Bytes → Bool
unfolding tells
all_words [] = true
all_words (w ∷ ws) = tells w && all_words ws

-- a field is one of these words as its key is one of theirs
pub in-by-key : (f : Bytes) (k : ℕ) → Keyed f k → (ws : List Bytes) → all_words ws ≡ true → mem f ws ≡ key_in k ws
unfolding all_words key_in mem
in-by-key f k h [] t = refl
in-by-key f k h (w ∷ ws) t = rw (h w (told w (and_left (tells w) (all_words ws) t)), in-by-key f k h ws (and_right (tells w) (all_words ws) t)) refl

-- the key is that of none of these words, behind what is known already
abbrev pub OtherWords : ℕ → List Bytes → Type 0 → Type 0
OtherWords k [] B = B
OtherWords k (w ∷ ws) B = OtherWords k ws (B × (k ≡ key_of 0 w → ⊥))

before-words : (k : ℕ) (ws : List Bytes) (B : Type 0) → OtherWords k ws B → B
before-words k [] B h = h
before-words k (w ∷ ws) B h = (before-words k ws (B × (k ≡ key_of 0 w → ⊥)) h).0

pub not_in : (k : ℕ) (ws : List Bytes) (B : Type 0) → OtherWords k ws B → false ≡ key_in k ws
unfolding key_in
not_in k [] B h = refl
not_in k (w ∷ ws) B h = rw (ne_eqb k (key_of 0 w) (before-words k ws (B × (k ≡ key_of 0 w → ⊥)) h).1) (not_in k ws (B × (k ≡ key_of 0 w → ⊥)) h)
