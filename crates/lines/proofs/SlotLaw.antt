-- The slots of a row, one after the other. Assumes nothing.
use Prim.Native.Nat.{ℕ, zero, suc, ◌+◌, ◌/◌, ◌%◌, ◌≤◌, ◌<◌}
use mathlib.Core.Path.{◌≡◌, refl, sym, ◌∙◌, ap, subst}
use mathlib.Core.List.{List, [], ◌∷◌, ◌++◌, append-nil, append_assoc}
use mathlib.Core.Bool.{Bool, true, false, cond}
use mathlib.Core.Option.{Option, none, some}
use mathlib.Core.Logic.{◌⊎◌, inl, inr, ⊎_elim}
use native.Mathlib.Omega.{arith}
use lib.Dec.{leb}
use borrow.Author.Tests.{leb-true, leb-false, ne_eqb}
use lib.ListN.{get_or}
use Rattle.text.specs.Text.{Bytes}
use Rattle.text.specs.Field.{Kind, fits, number_of}
use Rattle.text.specs.bridge.Code.{kind_at}
use Rattle.algebra.specs.Reader.{kept, zero_one}
use Rattle.algebra.specs.Tally.{notes}
use Rattle.names.specs.bridge.Names.{Holds}
use Rattle.cursor.specs.declared.Cursor.{Cursor}
use Rattle.cursor.proofs.Laws.{left-none}
use Rattle.algebra.specs.bridge.Table.{Slot, term, text, count, choice}
use Rattle.words.specs.bridge.Code.{one_slot, slots_in, mapped, slots_under, tail_of}
use Rattle.lines.specs.bridge.Line.{and_then, Took, took, take_field, Fields, fields, take_slots}
use Rattle.lines.specs.bridge.Steps.{left_at, Along, Follows, rest_of, rest_in, terms_of, terms_in, number_taken, TookSlots}
use Rattle.lines.proofs.RepeatLaw.{follows-along, follows-fine, follows-fault}

pub le-or-lt : (a b : ℕ) → (a ≤ b) ⊎ (b < a)
le-or-lt a b = go (leb a b) refl
  where
    go : (t : Bool) → leb a b ≡ t → (a ≤ b) ⊎ (b < a)
    go true e = inl (leb-true a b e)
    go false e = inr (leb-false a b e)

-- ---- what a role means

module _ (r : ℕ) (k : Kind) where
  pub slot-term : r ≡ 1 → one_slot r k ≡ term k
  unfolding one_slot
  slot-term e = rw e

  pub slot-text : r ≡ 2 → one_slot r k ≡ text k
  unfolding one_slot
  slot-text e = rw e

  pub slot-count : r ≡ 3 → one_slot r k ≡ count
  unfolding one_slot
  slot-count e = rw e

pub slot-choice : (r : ℕ) (k : Kind) → (r ≡ 1 → ⊥) → (r ≡ 2 → ⊥) → (r ≡ 3 → ⊥) → one_slot r k ≡ choice
unfolding one_slot
slot-choice zero k a b c = refl
slot-choice (suc zero) k a b c = absurd (a refl)
slot-choice (suc (suc zero)) k a b c = absurd (b refl)
slot-choice (suc (suc (suc zero))) k a b c = absurd (c refl)
slot-choice (suc (suc (suc (suc r)))) k a b c = refl

-- the slots of a number: none, or one and those behind it
pub slots-none : (k : ℕ) → slots_in k 0 ≡ []
unfolding slots_in
slots-none zero = refl
slots-none (suc k) = refl

pub slots-more : (k n : ℕ) → (n ≡ 0 → ⊥) → slots_in (suc k) n ≡ one_slot (n % 16) (kind_at (n / 16 % 16)) ∷ slots_in k (n / 256)
unfolding slots_in
slots-more k n h = rw (ne_eqb n 0 h) refl

-- a line of columns has no slots
pub under-columns : (t : ℕ) (ss : List Slot) → t ≡ 1 → slots_under (tail_of t) ss ≡ []
under-columns t ss e = rw e

pub under-others : (t : ℕ) (ss : List Slot) → (t ≡ 1 → ⊥) → slots_under (tail_of t) ss ≡ ss
under-others zero ss h = refl
under-others (suc zero) ss h = absurd (h refl)
under-others (suc (suc zero)) ss h = refl
under-others (suc (suc (suc zero))) ss h = refl
under-others (suc (suc (suc (suc zero)))) ss h = refl
under-others (suc (suc (suc (suc (suc zero))))) ss h = refl
under-others (suc (suc (suc (suc (suc (suc zero)))))) ss h = refl
under-others (suc (suc (suc (suc (suc (suc (suc t))))))) ss h = refl

-- ---- steps from a cursor to another, with the terms and numbers that they took

pub data Steps (s : Bytes) : Cursor → List Slot → List Bytes → List ℕ → Cursor → Type 0 where
  stop : {c : Cursor} → Steps s c [] [] [] c
  go : {c d r : Cursor} {σ : Slot} {ss : List Slot} {ts : List Bytes} {x : ℕ} {xs : List ℕ}
      → Follows s c (rest_of (take_field σ (left_at s c))) d → number_taken (take_field σ (left_at s c)) ≡ x → Steps s d ss ts xs r
      → Steps s c (σ ∷ ss) (terms_of (take_field σ (left_at s c)) ++ ts) (x ∷ xs) r

pub steps-along : (s : Bytes) {c r : Cursor} {ss : List Slot} {ts : List Bytes} {xs : List ℕ} → Steps s c ss ts xs r → Along c r
steps-along s stop = (refl, refl)
steps-along s (go {c = c} {d = d} f n more) = let a = follows-along s c d _ f in let b = steps-along s more in (b.0 ∙ a.0, b.1 ∙ a.1)

-- past the end nothing is taken
past-none : (s : Bytes) (c d : Cursor) (σ : Slot) → c.end < c.at → Follows s c (rest_of (take_field σ (left_at s c))) d → d.at ≡ c.end + 2
unfolding Follows
past-none s c d σ h f = get (subst (λ l. Follows s c (rest_of (take_field σ l)) d) (left-none s c.at c.end h) f)
  where
    get : Follows s c none d → d.at ≡ c.end + 2
    get f = f.1

-- a fault stays
fault-stays : (s : Bytes) {c r : Cursor} {ss : List Slot} {ts : List Bytes} {xs : List ℕ} → Steps s c ss ts xs r → c.end + 1 < c.at → c.end + 1 < r.at
fault-stays s stop h = h
fault-stays s (go {c = c} {d = d} {σ = σ} f n more) h =
    let a = past-none s c d σ (omega arith) f in
    let b = (follows-along s c d _ f).0 in
    let e = fault-stays s more (omega arith) in
    omega arith

-- and where it is
fault-last : (s : Bytes) {c r : Cursor} {ss : List Slot} {ts : List Bytes} {xs : List ℕ} → Steps s c ss ts xs r → c.at ≡ c.end + 2 → r.at ≡ c.end + 2
fault-last s stop e = e
fault-last s (go {c = c} {d = d} {σ = σ} f n more) e =
    let a = past-none s c d σ (omega arith) f in
    let b = (follows-along s c d _ f).0 in
    let i = fault-last s more (omega arith) in
    omega arith

-- ends well: everything was taken
pub steps-fine : (s : Bytes) {c r : Cursor} {ss : List Slot} {ts : List Bytes} {xs : List ℕ} → Steps s c ss ts xs r → r.at ≤ c.end + 1 → (take_slots ss (left_at s c) ≡ some (fields (left_at s r) ts xs)) × (c.at ≤ r.at)
unfolding take_slots
steps-fine s stop h = (refl, omega arith)
steps-fine s (go {c = c} {d = d} {r = r} {σ = σ} {ss = ss} {ts = ts} {x = x} {xs = xs} f n more) h =
    let b = (follows-along s c d _ f).0 in
    let k : d.at ≤ c.end + 1 = ⊎_elim (λ q. q) (λ (q : c.end + 1 < d.at). let e = fault-stays s more (omega arith) in absurd (omega arith)) (le-or-lt d.at (c.end + 1)) in
    let g = follows-fine s c d _ f k in
    let i = steps-fine s more (omega arith) in
    let low : c.at ≤ r.at = let u = g.1 in let v = i.1 in omega arith in
    (takes (take_field σ (left_at s c)) refl g.0 i.0, low)
  where
    takes : (o : Option Took) → take_field σ (left_at s c) ≡ o → rest_of o ≡ some (left_at s d) → take_slots ss (left_at s d) ≡ some (fields (left_at s r) ts xs)
        → and_then (take_field σ (left_at s c)) (λ t. mapped (λ u. fields u.rest (t.terms ++ u.terms) (t.number ∷ u.numbers)) (take_slots ss t.rest)) ≡ some (fields (left_at s r) (terms_of (take_field σ (left_at s c)) ++ ts) (x ∷ xs))
    takes none q e i = let z : ◌≡◌ {A = ℕ} 0 1 = cc in absurd (omega arith)
    takes (some t) q e i =
        let j : t.rest ≡ left_at s d = cc in
        let m : t.number ≡ x = sym (ap number_taken q) ∙ n in
        rw (q, j, i, m)

-- ends in a fault: not everything could be taken
pub steps-fault : (s : Bytes) {c r : Cursor} {ss : List Slot} {ts : List Bytes} {xs : List ℕ} → Steps s c ss ts xs r → c.at ≤ c.end + 1 → c.end + 1 < r.at → (rest_in (take_slots ss (left_at s c)) ≡ none) × (r.at ≡ c.end + 2)
unfolding take_slots
steps-fault s stop l h = absurd (omega arith)
steps-fault s (go {c = c} {d = d} {r = r} {σ = σ} {ss = ss} f n more) l h =
    ⊎_elim
    (λ (q : d.at ≤ c.end + 1).
    let b = (follows-along s c d _ f).0 in
    let g = follows-fine s c d _ f q in
    let i = steps-fault s more (omega arith) (omega arith) in
    (later (take_field σ (left_at s c)) refl g.0 i.0, i.1 ∙ ap (λ e. e + 2) b))
    (λ (q : c.end + 1 < d.at).
    let b = (follows-along s c d _ f).0 in
    let g = follows-fault s c d _ f q in
    (at_once (take_field σ (left_at s c)) refl g.0, let e = fault-last s more (omega arith) in omega arith))
    (le-or-lt d.at (c.end + 1))
  where
    inner : (t : Took) (o : Option Fields) → rest_in o ≡ none → rest_in (mapped (λ u. fields u.rest (t.terms ++ u.terms) (t.number ∷ u.numbers)) o) ≡ none
    inner t none e = refl
    inner t (some u) e = let z : ◌≡◌ {A = ℕ} 0 1 = cc in absurd (omega arith)

    later : (o : Option Took) → take_field σ (left_at s c) ≡ o → rest_of o ≡ some (left_at s d) → rest_in (take_slots ss (left_at s d)) ≡ none → rest_in (and_then (take_field σ (left_at s c)) (λ t. mapped (λ u. fields u.rest (t.terms ++ u.terms) (t.number ∷ u.numbers)) (take_slots ss t.rest))) ≡ none
    later none q e i = rw q
    later (some t) q e i = let j : t.rest ≡ left_at s d = cc in rw q (inner t (take_slots ss t.rest) (ap (λ x. rest_in (take_slots ss x)) j ∙ i))

    at_once : (o : Option Took) → take_field σ (left_at s c) ≡ o → rest_of o ≡ none → rest_in (and_then (take_field σ (left_at s c)) (λ t. mapped (λ u. fields u.rest (t.terms ++ u.terms) (t.number ∷ u.numbers)) (take_slots ss t.rest))) ≡ none
    at_once none q e = rw q
    at_once (some t) q e = let z : ◌≡◌ {A = ℕ} 0 1 = cc in absurd (omega arith)

-- a step more
pub steps-more : (s : Bytes) {c d r : Cursor} {ss : List Slot} {ts : List Bytes} {xs : List ℕ} (σ : Slot) (x : ℕ) → Steps s c ss ts xs d → Follows s d (rest_of (take_field σ (left_at s d))) r → number_taken (take_field σ (left_at s d)) ≡ x
    → Steps s c (ss ++ (σ ∷ [])) (ts ++ terms_of (take_field σ (left_at s d))) (xs ++ (x ∷ [])) r
steps-more s {d = d} {r = r} σ x stop f n = subst (λ (ts : List Bytes). Steps s d (σ ∷ []) ts (x ∷ []) r) (append-nil (terms_of (take_field σ (left_at s d)))) (go f n stop)
steps-more s {d = d} {r = r} σ x (go {c = c} {σ = τ} {ss = ss} {ts = ts} {x = y} {xs = xs} g m more) f n =
    subst (λ (us : List Bytes). Steps s c (τ ∷ (ss ++ (σ ∷ []))) us (y ∷ (xs ++ (x ∷ []))) r) (sym (append_assoc (terms_of (take_field τ (left_at s c))) ts (terms_of (take_field σ (left_at s d))))) (go g m (steps-more s σ x more f n))

-- so the code's steps are what the row's slots take
pub steps-took : (s : Bytes) (c r : Cursor) (ss : List Slot) (ts : List Bytes) (xs : List ℕ) (x y : ℕ) → Steps s c ss ts xs r → c.at ≤ c.end + 1 → get_or xs 0 0 ≡ x → get_or xs 1 0 ≡ y → x < 4294967296 → y < 4294967296 → TookSlots s c (take_slots ss (left_at s c)) r x y
unfolding TookSlots Follows
steps-took s c r ss ts xs x y st l ex ey bx by =
    ⊎_elim
    (λ (q : r.at ≤ c.end + 1). let f = steps-fine s st q in rw f.0 ((steps-along s st, f.1, q, refl), bx, by, λ h. (ex, ey)))
    (λ (q : c.end + 1 < r.at). let f = steps-fault s st l q in (subst (λ o. Follows s c o r) (sym f.0) (steps-along s st, f.1), bx, by, λ h. absurd (omega arith)))
    (le-or-lt r.at (c.end + 1))

-- ---- which slots count terms, and which numbers

kept-number : (b : Bool) (r t : List Bytes) → number_taken (kept b (took r t 0)) ≡ 0
unfolding kept
kept-number true r t = refl
kept-number false r t = refl

pub term-zero : (κ : Kind) (l : List Bytes) → number_taken (take_field (term κ) l) ≡ 0
term-zero κ [] = refl
term-zero κ (f ∷ fs) = kept-number (fits κ f) fs (f ∷ [])

pub text-zero : (κ : Kind) (l : List Bytes) → number_taken (take_field (text κ) l) ≡ 0
text-zero κ [] = refl
text-zero κ (f ∷ fs) = kept-number (fits κ f) fs []

pub text-bare : (κ : Kind) (l : List Bytes) → terms_of (take_field (text κ) l) ≡ []
unfolding kept
text-bare κ [] = refl
text-bare κ (f ∷ fs) = go (fits κ f)
  where
    go : (b : Bool) → terms_of (kept b (took fs [] 0)) ≡ []
    go true = refl
    go false = refl

mapped-bare : {A : Type 0} (o : Option A) (g : A → ℕ) (fs : List Bytes) → terms_of (mapped (λ n. took fs [] (g n)) o) ≡ []
mapped-bare none g fs = refl
mapped-bare (some n) g fs = refl

pub count-bare : (l : List Bytes) → terms_of (take_field count l) ≡ []
count-bare [] = refl
count-bare (f ∷ fs) = mapped-bare (number_of f) (λ n. n) fs

pub choice-bare : (l : List Bytes) → terms_of (take_field choice l) ≡ []
choice-bare [] = refl
choice-bare (f ∷ fs) = mapped-bare (zero_one f) (λ b. cond b 1 0) fs

-- no term: the table is as it was
pub keeps_same : (s a l h : List ℕ) (n : ℕ) (ts want : List Bytes) → ts ≡ [] → Holds s a l h n want → Holds s a l h n (notes ts want)
unfolding notes
keeps_same s a l h n ts want e q = rw e q

pub steps-terms : (s : Bytes) (c r : Cursor) (ss : List Slot) (ts : List Bytes) (xs : List ℕ) → Steps s c ss ts xs r → r.at ≤ c.end + 1 → terms_in (take_slots ss (left_at s c)) ≡ ts
steps-terms s c r ss ts xs st h = ap terms_in (steps-fine s st h).0
