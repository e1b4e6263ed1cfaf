-- Which field is an IRI, by its line's key, its number and its first byte. Assumes nothing.
use Prim.Native.Nat.{ℕ, ◌+◌, ◌-◌, ◌≤◌}
use mathlib.Core.Path.{◌≡◌, refl, sym, ap, ◌∙◌}
use mathlib.Core.Bool.{Bool, true, false, not, ◌&&◌, ◌||◌, false≢true}
use native.Mathlib.Omega.{arith}
use lib.ListN.{get_or, drop}
use lib.Seq.{get_or-take, get_or-drop}
use lib.Dec.{eqb}
use borrow.Author.Tests.{ne_eqb, eq-eqb}
use Rattle.text.specs.Text.{Bytes, part, same}
use Rattle.text.specs.Word.{bytes}
use Rattle.words.specs.bridge.Key.{key_of, Keyed}
use Rattle.words.proofs.ByKey.{small, tells, is_word, other_key}
use Rattle.converting.specs.bridge.Lines.{is_text, is_iri_at}

or-false : (b : Bool) → (b || false) ≡ b
or-false true = refl
or-false false = refl

pub and-false : (b : Bool) → (b && false) ≡ false
and-false true = refl
and-false false = refl

pub and-true : (b : Bool) → (b && true) ≡ b
and-true true = refl
and-true false = refl

-- ---- texts

module _ (w : Bytes) (k : ℕ) (h : Keyed w k) (i : ℕ) where
  pub path-text : k ≡ key_of 0 (bytes "path") → eqb i 1 ≡ is_text w i
  unfolding is_text same small tells
  path-text e = sym (ap (λ (x : Bytes). is_text x i) (is_word w k h (bytes "path") refl e) ∙ or-false (eqb i 1))

  pub agg-text : k ≡ key_of 0 (bytes "agg") → eqb i 1 ≡ is_text w i
  unfolding is_text same small tells
  agg-text e = sym (ap (λ (x : Bytes). is_text x i) (is_word w k h (bytes "agg") refl e) ∙ or-false (eqb i 1))

  pub call-text : k ≡ key_of 0 (bytes "call") → eqb i 0 ≡ is_text w i
  unfolding is_text same small tells
  call-text e = sym (ap (λ (x : Bytes). is_text x i) (is_word w k h (bytes "call") refl e))

  pub no_text : (k ≡ key_of 0 (bytes "path") → ⊥) → (k ≡ key_of 0 (bytes "agg") → ⊥) → (k ≡ key_of 0 (bytes "call") → ⊥) → false ≡ is_text w i
  unfolding is_text small tells
  no_text p a c = rw (other_key w k h (bytes "path") refl p, other_key w k h (bytes "agg") refl a, other_key w k h (bytes "call") refl c) refl

-- ---- IRIs

module _ (w : Bytes) (i : ℕ) (s : Bytes) (from to : ℕ) where
  pub no_field : from ≡ to → false ≡ is_iri_at w i (part from to s)
  unfolding is_iri_at
  no_field e = let z : to - from ≡ 0 = omega arith in rw z (sym (and-false (not (is_text w i))))

  module _ (low : from ≤ to) (some : from ≡ to → ⊥) where
    byte : get_or (part from to s) 0 0 ≡ get_or s from 0
    byte = let z : from + 0 ≡ from = omega arith in get_or-take (to - from) (drop from s) 0 0 (omega arith) ∙ get_or-drop from s 0 0 ∙ ap (λ (k : ℕ). get_or s k 0) z

    pub other_byte : (get_or s from 0 ≡ 60 → ⊥) → false ≡ is_iri_at w i (part from to s)
    unfolding is_iri_at
    other_byte n = rw (byte, ne_eqb (get_or s from 0) 60 n) (sym (and-false (not (is_text w i))))

    pub by-text : get_or s from 0 ≡ 60 → (b : Bool) → b ≡ is_text w i → not b ≡ is_iri_at w i (part from to s)
    unfolding is_iri_at
    by-text e b is = rw (byte, eq-eqb (get_or s from 0) 60 e) (ap not is ∙ sym (and-true (not (is_text w i))))

-- it is none
pub no_such : {P : Type 0} → false ≡ true → P
no_such h = absurd (false≢true h)
