-- Terms that go into the table, choices, and how many fields are left. Assumes nothing.
use Prim.Native.Nat.{ℕ, zero, suc, ◌-◌, ◌≤◌, ◌<◌}
use mathlib.Core.Path.{◌≡◌, refl, sym, ◌∙◌, ap}
use mathlib.Core.List.{List, [], ◌∷◌, ◌++◌, append_assoc, append-nil}
use mathlib.Core.Bool.{Bool, true, false, cond}
use mathlib.Core.Option.{Option, none, some}
use native.Mathlib.Omega.{arith}
use lib.ListN.{length, length-take, length-drop}
use lib.Dec.{eqb, leb}
use Rattle.text.specs.Text.{Bytes, split, onto, part}
use Rattle.text.specs.Field.{number_of}
use Rattle.cursor.specs.declared.Cursor.{Cursor}
use Rattle.cursor.specs.bridge.Cursor.{left}
use Rattle.algebra.specs.bridge.Table.{Slot, count, choice}
use Rattle.words.specs.bridge.Code.{mapped}
use Rattle.lines.specs.bridge.Line.{and_then, Took, took, take_field, Fields, fields, take_times}
use Rattle.lines.specs.bridge.Steps.{InLine, left_at, rest_of, terms_of, terms_in, number_taken}
use Rattle.lines.proofs.Zero.{choice-none, choice-big, choice-is}

-- ---- terms taken so far, in front of those that are taken still

abbrev pub prefixed : List Bytes → Option Fields → Option Fields
prefixed ts o = mapped (λ u. fields u.rest (ts ++ u.terms) []) o

times-bare : (k : ℕ) (σ : Slot) (l : List Bytes) → take_times k σ l ≡ prefixed [] (take_times k σ l)
unfolding take_times
times-bare zero σ l = refl
times-bare (suc k) σ l = go (take_field σ l)
  where
    inner : (t : Took) (o : Option Fields) → mapped (λ u. fields u.rest (t.terms ++ u.terms) []) o ≡ prefixed [] (mapped (λ u. fields u.rest (t.terms ++ u.terms) []) o)
    inner t none = refl
    inner t (some u) = refl

    go : (o : Option Took) → and_then o (λ t. mapped (λ u. fields u.rest (t.terms ++ u.terms) []) (take_times k σ t.rest)) ≡ prefixed [] (and_then o (λ t. mapped (λ u. fields u.rest (t.terms ++ u.terms) []) (take_times k σ t.rest)))
    go none = refl
    go (some t) = inner t (take_times k σ t.rest)

pub terms-start : (k : ℕ) (σ : Slot) (l : List Bytes) → take_times k σ l ≡ prefixed [] (take_times k σ l)
terms-start = times-bare

-- one term more
pub terms-next : (k : ℕ) (σ : Slot) (l m ts : List Bytes) (whole : Option Fields) → whole ≡ prefixed ts (take_times k σ l) → 0 < k → rest_of (take_field σ l) ≡ some m → whole ≡ prefixed (ts ++ terms_of (take_field σ l)) (take_times (k - 1) σ m)
unfolding take_times
terms-next zero σ l m ts whole w h e = absurd (omega arith)
terms-next (suc k) σ l m ts whole w h e = w ∙ go (take_field σ l) e ∙ rw pred-is
  where
    pred-is : suc k - 1 ≡ k
    pred-is = omega arith

    inner : (us : List Bytes) (o : Option Fields) → prefixed ts (mapped (λ u. fields u.rest (us ++ u.terms) []) o) ≡ prefixed (ts ++ us) o
    inner us none = refl
    inner us (some u) = ap (λ x. some (fields u.rest x [])) (sym (append_assoc ts us u.terms))

    go : (o : Option Took) → rest_of o ≡ some m → prefixed ts (and_then o (λ t. mapped (λ u. fields u.rest (t.terms ++ u.terms) []) (take_times k σ t.rest))) ≡ prefixed (ts ++ terms_of o) (take_times k σ m)
    go none q = let z : ◌≡◌ {A = ℕ} 0 1 = cc in absurd (omega arith)
    go (some t) q = let i : t.rest ≡ m = cc in inner t.terms (take_times k σ t.rest) ∙ ap (λ x. prefixed (ts ++ t.terms) (take_times k σ x)) i

pub terms-end : (k : ℕ) (σ : Slot) (l ts : List Bytes) (whole : Option Fields) → whole ≡ prefixed ts (take_times k σ l) → k ≤ 0 → terms_in whole ≡ ts
unfolding take_times
terms-end zero σ l ts whole w h = rw w (append-nil ts)
terms-end (suc k) σ l ts whole w h = absurd (omega arith)

-- ---- a choice is a count of at most 1

pub choice-small : (l : List Bytes) → number_taken (take_field count l) ≤ 1 → take_field choice l ≡ take_field count l
choice-small [] h = refl
choice-small (f ∷ fs) h = go (number_of f) refl h
  where
    go : (o : Option ℕ) → number_of f ≡ o → number_taken (mapped (λ n. took fs [] n) o) ≤ 1 → take_field choice (f ∷ fs) ≡ take_field count (f ∷ fs)
    go none q h = choice-none f fs q ∙ sym (rw q)
    go (some v) q h = choice-is f fs v q h ∙ sym (rw q)

pub choice-large : (l : List Bytes) → 1 < number_taken (take_field count l) → take_field choice l ≡ none
choice-large [] h = absurd (omega arith)
choice-large (f ∷ fs) h = go (number_of f) refl h
  where
    go : (o : Option ℕ) → number_of f ≡ o → 1 < number_taken (mapped (λ n. took fs [] n) o) → take_field choice (f ∷ fs) ≡ none
    go none q h = absurd (omega arith)
    go (some v) q h = choice-big f fs v q h

-- ---- a line has at most one field more than bytes

split-long : (b : ℕ) (xs : Bytes) → length (split b xs) ≤ suc (length xs)
unfolding split onto
split-long b [] = omega arith
split-long b (x ∷ xs) = go (eqb x b) (split b xs) (split-long b xs)
  where
    go : (t : Bool) (ps : List Bytes) → length ps ≤ suc (length xs) → length (cond t ([] ∷ ps) (onto x ps)) ≤ suc (suc (length xs))
    go true ps h = omega arith
    go false [] h = omega arith
    go false (p ∷ ps) h = omega arith

pub left-long : (s : Bytes) (c : Cursor) → InLine s c → length (left_at s c) ≤ 16384
unfolding left
left-long s c line = go (leb c.at c.end)
  where
    go : (b : Bool) → length (cond b (split 9 (part c.at c.end s)) []) ≤ 16384
    go true =
        let a = split-long 9 (part c.at c.end s) in
        let l : length (part c.at c.end s) ≤ c.end = simp (length-take, length-drop) (omega arith) in
        let e = line.ends in
        let h = line.short in
        omega arith
    go false = omega arith
