-- What a line says of a variable that is sought, by the key of its word: a law for each arm of the code. Assumes nothing.
use Prim.Native.Nat.{ℕ, zero, suc, ◌≤◌, ◌<◌}
use mathlib.Core.Path.{◌≡◌, refl, sym, ap, ◌∙◌}
use mathlib.Core.Bool.{Bool, true, false, not, ◌||◌, or-false}
use mathlib.Core.List.{List, [], ◌∷◌}
use native.Mathlib.Omega.{arith}
use lib.ListN.{get_or}
use lib.Dec.{eqb, ltb}
use borrow.Author.Tests.{lt-leb, le-ltb, ne_eqb}
use Rattle.text.specs.Text.{Bytes, same, part}
use Rattle.text.specs.Word.{bytes}
use Rattle.algebra.specs.Valid.{mem}
use Rattle.cursor.specs.bridge.Cursor.{left}
use Rattle.words.specs.bridge.Key.{key_of, Keyed}
use Rattle.words.proofs.ByKey.{small, tells, is_word, other_key}
use Rattle.placing.specs.declared.field.Field.{Field}
use Rattle.placing.specs.bridge.Fields.{FieldIs}
use Rattle.spelling.specs.bridge.Seeking.{names_on, shows}

-- ---- fields

module _ (v s : Bytes) (from end : ℕ) (d : Field) (i : FieldIs s from end d) (b : Bool) (q : b ≡ same v (part from d.to s)) where
  pub field_is : b ≡ same v (get_or (left s from end) 0 [])
  field_is = q ∙ ap (same v) i.is

  pub among-here : from ≤ end → b ≡ true → true ≡ mem v (left s from end)
  unfolding mem
  among-here h e = rw (i.here h, sym q ∙ e)

  pub among_next : from ≤ end → b ≡ false → mem v (left s from end) ≡ mem v (left s d.next end)
  unfolding mem
  among_next h e = rw (i.here h, sym q ∙ e)

pub among_none : (v s : Bytes) (from end : ℕ) → end < from → false ≡ mem v (left s from end)
unfolding left mem
among_none v s from end h = rw (lt-leb from end h)

module _ (f : Bytes) (k : ℕ) (keyed : Keyed f k) where
  is : (w : Bytes) → tells w ≡ true → k ≡ key_of 0 w → f ≡ w
  is = is_word f k keyed

  no : (w : Bytes) → tells w ≡ true → (k ≡ key_of 0 w → ⊥) → same f w ≡ false
  no = other_key f k keyed

  -- ---- the fields that a line names

  module _ (v : Bytes) (fs : List Bytes) (b : Bool) where
    pub names-t : k ≡ key_of 0 (bytes "t") → b ≡ mem v fs → b ≡ mem v (names_on (f ∷ fs))
    unfolding names_on same small tells
    names-t t p = rw (is (bytes "t") refl t) p

    pub names-project : k ≡ key_of 0 (bytes "project") → b ≡ mem v fs → b ≡ mem v (names_on (f ∷ fs))
    unfolding names_on same small tells
    names-project t p = rw (is (bytes "project") refl t) p

    pub names-cols : k ≡ key_of 0 (bytes "cols") → b ≡ mem v fs → b ≡ mem v (names_on (f ∷ fs))
    unfolding names_on same small tells
    names-cols t p = rw (is (bytes "cols") refl t) p

    pub names-path : k ≡ key_of 0 (bytes "path") → b ≡ (same v (get_or fs 0 []) || same v (get_or fs 2 [])) → b ≡ mem v (names_on (f ∷ fs))
    unfolding names_on mem same small tells
    names-path t p = rw (is (bytes "path") refl t) (p ∙ ap (λ (c : Bool). same v (get_or fs 0 []) || c) (sym (or-false (same v (get_or fs 2 [])))))

    pub names-graph : k ≡ key_of 0 (bytes "graph") → b ≡ same v (get_or fs 0 []) → b ≡ mem v (names_on (f ∷ fs))
    unfolding names_on mem same small tells
    names-graph t p = rw (is (bytes "graph") refl t) (p ∙ sym (or-false (same v (get_or fs 0 []))))

    pub names-service : k ≡ key_of 0 (bytes "service") → b ≡ same v (get_or fs 0 []) → b ≡ mem v (names_on (f ∷ fs))
    unfolding names_on mem same small tells
    names-service t p = rw (is (bytes "service") refl t) (p ∙ sym (or-false (same v (get_or fs 0 []))))

    pub names-extend : k ≡ key_of 0 (bytes "extend") → b ≡ same v (get_or fs 0 []) → b ≡ mem v (names_on (f ∷ fs))
    unfolding names_on mem same small tells
    names-extend t p = rw (is (bytes "extend") refl t) (p ∙ sym (or-false (same v (get_or fs 0 []))))

    pub names-agg : k ≡ key_of 0 (bytes "agg") → b ≡ same v (get_or fs 0 []) → b ≡ mem v (names_on (f ∷ fs))
    unfolding names_on mem same small tells
    names-agg t p = rw (is (bytes "agg") refl t) (p ∙ sym (or-false (same v (get_or fs 0 []))))

    pub names-aggall : k ≡ key_of 0 (bytes "aggall") → b ≡ same v (get_or fs 0 []) → b ≡ mem v (names_on (f ∷ fs))
    unfolding names_on mem same small tells
    names-aggall t p = rw (is (bytes "aggall") refl t) (p ∙ sym (or-false (same v (get_or fs 0 []))))

  pub names-none : (v : Bytes) (fs : List Bytes) → (k ≡ key_of 0 (bytes "t") → ⊥) → (k ≡ key_of 0 (bytes "project") → ⊥) → (k ≡ key_of 0 (bytes "cols") → ⊥) → (k ≡ key_of 0 (bytes "path") → ⊥) → (k ≡ key_of 0 (bytes "graph") → ⊥) → (k ≡ key_of 0 (bytes "service") → ⊥) → (k ≡ key_of 0 (bytes "extend") → ⊥) → (k ≡ key_of 0 (bytes "agg") → ⊥) → (k ≡ key_of 0 (bytes "aggall") → ⊥) → false ≡ mem v (names_on (f ∷ fs))
  unfolding names_on mem small tells
  names-none v fs a0 a1 a2 a3 a4 a5 a6 a7 a8 =
      rw (no (bytes "t") refl a0, no (bytes "project") refl a1, no (bytes "cols") refl a2, no (bytes "path") refl a3, no (bytes "graph") refl a4, no (bytes "service") refl a5, no (bytes "extend") refl a6, no (bytes "agg") refl a7, no (bytes "aggall") refl a8)

  -- ---- the children that are shown

  module _ (fs : List Bytes) (i : ℕ) where
    pub shows-leftjoin : k ≡ key_of 0 (bytes "leftjoin") → ltb i 2 ≡ shows (f ∷ fs) i
    unfolding shows same small tells
    shows-leftjoin t = rw (is (bytes "leftjoin") refl t) (go i)
      where
        go : (i : ℕ) → ltb i 2 ≡ shows (bytes "leftjoin" ∷ fs) i
        go zero = refl
        go (suc zero) = refl
        go (suc (suc j)) = le-ltb (suc (suc j)) 2 (omega arith)

    pub shows-minus : k ≡ key_of 0 (bytes "minus") → eqb i 0 ≡ shows (f ∷ fs) i
    unfolding shows same small tells
    shows-minus t = rw (is (bytes "minus") refl t) (go i)
      where
        go : (i : ℕ) → eqb i 0 ≡ shows (bytes "minus" ∷ fs) i
        go zero = refl
        go (suc j) = ne_eqb (suc j) 0 (λ h. absurd (omega arith))

    pub shows-filter : k ≡ key_of 0 (bytes "filter") → eqb i 0 ≡ shows (f ∷ fs) i
    unfolding shows same small tells
    shows-filter t = rw (is (bytes "filter") refl t) (go i)
      where
        go : (i : ℕ) → eqb i 0 ≡ shows (bytes "filter" ∷ fs) i
        go zero = refl
        go (suc j) = ne_eqb (suc j) 0 (λ h. absurd (omega arith))

    pub shows-extend : k ≡ key_of 0 (bytes "extend") → eqb i 0 ≡ shows (f ∷ fs) i
    unfolding shows same small tells
    shows-extend t = rw (is (bytes "extend") refl t) (go i)
      where
        go : (i : ℕ) → eqb i 0 ≡ shows (bytes "extend" ∷ fs) i
        go zero = refl
        go (suc j) = ne_eqb (suc j) 0 (λ h. absurd (omega arith))

    pub shows-orderby : k ≡ key_of 0 (bytes "orderby") → eqb i 0 ≡ shows (f ∷ fs) i
    unfolding shows same small tells
    shows-orderby t = rw (is (bytes "orderby") refl t) (go i)
      where
        go : (i : ℕ) → eqb i 0 ≡ shows (bytes "orderby" ∷ fs) i
        go zero = refl
        go (suc j) = ne_eqb (suc j) 0 (λ h. absurd (omega arith))

    pub shows-group : k ≡ key_of 0 (bytes "group") → not (eqb i 1) ≡ shows (f ∷ fs) i
    unfolding shows same small tells
    shows-group t = rw (is (bytes "group") refl t) (go i)
      where
        go : (i : ℕ) → not (eqb i 1) ≡ shows (bytes "group" ∷ fs) i
        go zero = refl
        go (suc zero) = refl
        go (suc (suc j)) = ap not (ne_eqb (suc (suc j)) 1 (λ h. absurd (omega arith)))

    pub shows-project : k ≡ key_of 0 (bytes "project") → false ≡ shows (f ∷ fs) i
    unfolding shows same small tells
    shows-project t = rw (is (bytes "project") refl t)

    pub shows-agg : k ≡ key_of 0 (bytes "agg") → false ≡ shows (f ∷ fs) i
    unfolding shows same small tells
    shows-agg t = rw (is (bytes "agg") refl t)

    pub shows-all : (k ≡ key_of 0 (bytes "leftjoin") → ⊥) → (k ≡ key_of 0 (bytes "minus") → ⊥) → (k ≡ key_of 0 (bytes "filter") → ⊥) → (k ≡ key_of 0 (bytes "extend") → ⊥) → (k ≡ key_of 0 (bytes "orderby") → ⊥) → (k ≡ key_of 0 (bytes "group") → ⊥) → (k ≡ key_of 0 (bytes "project") → ⊥) → (k ≡ key_of 0 (bytes "agg") → ⊥) → true ≡ shows (f ∷ fs) i
    unfolding shows small tells
    shows-all a0 a1 a2 a3 a4 a5 a6 a7 =
        rw (no (bytes "leftjoin") refl a0, no (bytes "minus") refl a1, no (bytes "filter") refl a2, no (bytes "extend") refl a3, no (bytes "orderby") refl a4, no (bytes "group") refl a5, no (bytes "project") refl a6, no (bytes "agg") refl a7)
