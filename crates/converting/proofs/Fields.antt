-- A field's first byte tells whether it is an IRI, for every kind of field but texts. Assumes nothing.
use Prim.Native.Nat.{ℕ, zero, suc, ◌+◌, ◌-◌, ◌*◌, ◌/◌, ◌%◌, ◌≤◌, ◌<◌}
use mathlib.Core.Path.{◌≡◌, refl, sym, ◌∙◌}
use mathlib.Core.Bool.{Bool, true, false, cond, ◌&&◌, ◌||◌, false≢true}
use mathlib.Core.List.{[], ◌∷◌, ◌++◌}
use mathlib.Core.Option.{none}
use native.Mathlib.Omega.{arith}
use lib.ListN.{length, get_or}
use lib.Dec.{leb, ltb, eqb}
use borrow.Author.Tests.{leb-true, ltb-true, eqb-true, ne_eqb}
use Rattle.text.specs.Text.{Bytes}
use Rattle.text.specs.Field.{most, digits_of, number_of, digits, decimal, given, clean, is_var, is_iri, is_literal, is_blank, is_constant, is_plain, is_dash, is_flag, variable, node, plain, name, cell, integer, limit, flag, is_kind, fits}
use Rattle.text.proofs.Basics.{and_left, and_right}

-- the first byte tells
abbrev pub Told : Bytes → Type 0
Told f = eqb (get_or f 0 0) 60 ≡ is_iri f

-- the first byte is another
abbrev pub Other : Bytes → Type 0
Other f = eqb (get_or f 0 0) 60 ≡ false

by-or : {P : Type 0} (a b : Bool) → (a || b) ≡ true → (a ≡ true → P) → (b ≡ true → P) → P
by-or true b h f g = f refl
by-or false b h f g = g h

other_byte : (f : Bytes) (b : ℕ) → eqb (get_or f 0 0) b ≡ true → (b ≡ 60 → ⊥) → Other f
other_byte f b h n = ne_eqb (get_or f 0 0) 60 (λ e. n (sym (eqb-true (get_or f 0 0) b h) ∙ e))

and_no : (a b c : Bool) → b ≡ false → (a && (b && c)) ≡ false
and_no true b c h = rw h refl
and_no false b c h = refl

-- no IRI then
pub other-told : (f : Bytes) → Other f → Told f
unfolding is_iri
other-told f h = h ∙ sym (and_no (leb 2 (length f)) (eqb (get_or f 0 0) 60) (eqb (get_or f (length f - 1) 0) 62) h)

pub other-no-iri : (f : Bytes) → Other f → is_iri f ≡ false
other-no-iri f h = sym (other-told f h) ∙ h

iri-told : (f : Bytes) → is_iri f ≡ true → Told f
unfolding is_iri
iri-told f h = and_left (eqb (get_or f 0 0) 60) (eqb (get_or f (length f - 1) 0) 62) (and_right (leb 2 (length f)) (eqb (get_or f 0 0) 60 && eqb (get_or f (length f - 1) 0) 62) h) ∙ sym h

pub var-other : (f : Bytes) → is_var f ≡ true → Other f
unfolding is_var
var-other f h = other_byte f 63 (and_right (leb (length f) 129) (eqb (get_or f 0 0) 63) (and_right (leb 2 (length f)) (leb (length f) 129 && eqb (get_or f 0 0) 63) h)) (λ e. absurd (omega arith))

literal-other : (f : Bytes) → is_literal f ≡ true → Other f
unfolding is_literal
literal-other f h = other_byte f 34 (and_right (leb 1 (length f)) (eqb (get_or f 0 0) 34) h) (λ e. absurd (omega arith))

blank-other : (f : Bytes) → is_blank f ≡ true → Other f
unfolding is_blank
blank-other f h = other_byte f 95 (and_left (eqb (get_or f 0 0) 95) (eqb (get_or f 1 0) 58) (and_right (leb 2 (length f)) (eqb (get_or f 0 0) 95 && eqb (get_or f 1 0) 58) h)) (λ e. absurd (omega arith))

dash-other : (f : Bytes) → is_dash f ≡ true → Other f
unfolding is_dash
dash-other f h = other_byte f 45 (and_right (eqb (length f) 1) (eqb (get_or f 0 0) 45) h) (λ e. absurd (omega arith))

flag-other : (f : Bytes) → is_flag f ≡ true → Other f
unfolding is_flag
flag-other f h =
    by-or (eqb (get_or f 0 0) 48) (eqb (get_or f 0 0) 49) (and_right (eqb (length f) 1) (eqb (get_or f 0 0) 48 || eqb (get_or f 0 0) 49) h)
    (λ k. other_byte f 48 k (λ e. absurd (omega arith))) (λ k. other_byte f 49 k (λ e. absurd (omega arith)))

constant-told : (f : Bytes) → is_constant f ≡ true → Told f
constant-told f h = by-or (is_iri f) (is_literal f) h (iri-told f) (λ k. other-told f (literal-other f k))

plain-told : (f : Bytes) → is_plain f ≡ true → Told f
plain-told f h = by-or (is_var f) (is_constant f) h (λ k. other-told f (var-other f k)) (constant-told f)

-- ---- numbers

digit-other : (d : ℕ) (ds : Bytes) → leb d 57 ≡ true → Other (d ∷ ds)
digit-other d ds h = ne_eqb d 60 (λ e. let k = leb-true d 57 h in absurd (omega arith))

first-digit : (n d : ℕ) (ds : Bytes) → given (digits_of n (d ∷ ds)) ≡ true → leb d 57 ≡ true
unfolding digits_of
first-digit n d ds h = go (leb 48 d) (leb d 57) (leb (n * 10 + (d - 48)) most) h
  where
    go : (a b c : Bool) → given (cond (a && (b && c)) (digits_of (n * 10 + (d - 48)) ds) none) ≡ true → b ≡ true
    go true true c h = refl
    go true false c h = h
    go false true c h = refl
    go false false c h = h

pub number-other : (f : Bytes) → given (number_of f) ≡ true → Other f
unfolding number_of
number-other [] h = absurd (false≢true h)
number-other (d ∷ []) h = digit-other d [] (first-digit 0 d [] h)
number-other (d ∷ e ∷ ds) h = go (eqb d 48) h
  where
    go : (b : Bool) → given (cond b none (digits_of 0 (d ∷ e ∷ ds))) ≡ true → Other (d ∷ e ∷ ds)
    go true h = absurd (false≢true h)
    go false h = digit-other d (e ∷ ds) (first-digit 0 d (e ∷ ds) h)

-- the digits that are written
small-first : (k n : ℕ) → get_or (digits k n) 0 0 ≤ 57
unfolding digits
small-first zero n = omega arith
small-first (suc k) n = go (ltb n 10) refl (digits k (n / 10)) (small-first k (n / 10))
  where
    go : (b : Bool) → ltb n 10 ≡ b → (xs : Bytes) → get_or xs 0 0 ≤ 57 → get_or (elim b [ true ↦ (n + 48) ∷ [] | false ↦ xs ++ ((n % 10 + 48) ∷ []) ]) 0 0 ≤ 57
    go true e xs h = let k = ltb-true n 10 e in omega arith
    go false e [] h = let k : n % 10 < 10 = omega arith in omega arith
    go false e (x ∷ xs) h = h

pub decimal-other : (n : ℕ) → Other (decimal n)
unfolding decimal
decimal-other n = ne_eqb (get_or (digits (suc n) n) 0 0) 60 (λ e. let k = small-first (suc n) n in absurd (omega arith))

-- ---- kinds

module _ (f : Bytes) where
  pub node-told : fits node f ≡ true → Told f
  unfolding fits is_kind
  node-told h = by-or (is_plain f) (is_blank f) (and_right (clean f) (is_plain f || is_blank f) h) (plain-told f) (λ k. other-told f (blank-other f k))

  pub plain-field : fits plain f ≡ true → Told f
  unfolding fits is_kind
  plain-field h = plain-told f (and_right (clean f) (is_plain f) h)

  pub name-told : fits name f ≡ true → Told f
  unfolding fits is_kind
  name-told h = by-or (is_iri f) (is_var f) (and_right (clean f) (is_iri f || is_var f) h) (iri-told f) (λ k. other-told f (var-other f k))

  pub cell-told : fits cell f ≡ true → Told f
  unfolding fits is_kind
  cell-told h = by-or (is_constant f) (is_dash f) (and_right (clean f) (is_constant f || is_dash f) h) (constant-told f) (λ k. other-told f (dash-other f k))

  pub variable-other : fits variable f ≡ true → Other f
  unfolding fits is_kind
  variable-other h = var-other f (and_right (clean f) (is_var f) h)

  pub integer-other : fits integer f ≡ true → Other f
  unfolding fits is_kind
  integer-other h = number-other f (and_right (clean f) (given (number_of f)) h)

  pub limit-other : fits limit f ≡ true → Other f
  unfolding fits is_kind
  limit-other h = by-or (given (number_of f)) (is_dash f) (and_right (clean f) (given (number_of f) || is_dash f) h) (number-other f) (dash-other f)

  pub flag-field : fits flag f ≡ true → Other f
  unfolding fits is_kind
  flag-field h = flag-other f (and_right (clean f) (is_flag f) h)
