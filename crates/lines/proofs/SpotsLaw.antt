-- The spots that are to come in a line, one field after the other. Assumes nothing.
use Prim.Native.Nat.{ℕ, zero, suc, ◌+◌, ◌-◌, ◌≤◌, ◌<◌}
use mathlib.Core.Path.{◌≡◌, refl, sym, ◌∙◌, ap, ap₂}
use mathlib.Core.List.{List, [], ◌∷◌, ◌++◌}
use mathlib.Core.Bool.{Bool, true, false, cond, ◌&&◌, true≢false}
use mathlib.Core.Option.{Option, none, some}
use mathlib.Core.Logic.{⊎_elim}
use native.Mathlib.Omega.{arith}
use lib.ListN.{length, get_or, length-take, length-drop}
use lib.Dec.{eqb, leb}
use borrow.Author.Tests.{ne_eqb, le-leb, lt-leb}
use Rattle.text.specs.Text.{Bytes, split, onto, part}
use Rattle.text.specs.Field.{Kind, cell, digits_of, number_of, clean, is_var, is_iri, is_literal, is_dash, is_kind, fits}
use Rattle.text.proofs.Basics.{and_right}
use Rattle.cursor.specs.declared.Cursor.{Cursor}
use Rattle.cursor.specs.bridge.Cursor.{left}
use Rattle.cursor.proofs.Laws.{left-none}
use Rattle.algebra.specs.Reader.{kept}
use Rattle.algebra.specs.bridge.Table.{Slot, term, text, count, choice}
use Rattle.scoping.specs.bridge.Places.{Mark}
use Rattle.scoping.specs.bridge.Walk.{opened}
use Rattle.scoping.specs.bridge.Spots.{spot, spots_in, fields_size}
use Rattle.words.specs.bridge.Code.{mapped, tail_of}
use Rattle.lines.specs.bridge.Line.{and_then, took, take_field, take_times, take_tail}
use Rattle.lines.specs.bridge.Steps.{InLine, left_at, Along, Follows, rest_of, rest_in, number_taken}
use Rattle.lines.specs.bridge.Stored.{found, one_spot}
use Rattle.lines.proofs.RepeatLaw.{follows-fine, times_more, times-end}
use Rattle.lines.proofs.FieldsLaw.{choice-small, choice-large}
use Rattle.lines.proofs.SlotLaw.{le-or-lt}

-- ---- fields that are no variables

and_none : (t : Bool) → (t && false) ≡ false
and_none true = refl
and_none false = refl

not-variable : (f : Bytes) → (get_or f 0 0 ≡ 63 → ⊥) → is_var f ≡ false
unfolding is_var
not-variable f h = rw (ne_eqb (get_or f 0 0) 63 h, and_none (leb (length f) 129), and_none (leb 2 (length f)))

no_digit : (ds : Bytes) (n : ℕ) → number_of (63 ∷ ds) ≡ some n → ⊥
unfolding number_of digits_of
no_digit [] n e = let z : ◌≡◌ {A = ℕ} 0 1 = cc in omega arith
no_digit (d ∷ ds) n e = let z : ◌≡◌ {A = ℕ} 0 1 = cc in omega arith

-- a number is no variable
pub number-fixed : (f : Bytes) (n : ℕ) → number_of f ≡ some n → is_var f ≡ false
unfolding is_var
number-fixed [] n e = refl
number-fixed (d ∷ ds) n e = not-variable (d ∷ ds) (λ q. no_digit ds n (ap (λ (x : ℕ). number_of (x ∷ ds)) (sym q) ∙ e))

no_cell : (f : Bytes) → get_or f 0 0 ≡ 63 → is_kind cell f ≡ false
unfolding is_kind is_iri is_literal is_dash
no_cell f q = rw (q, and_none (leb 2 (length f)), and_none (leb 1 (length f)), and_none (eqb (length f) 1))

-- an IRI, a literal or a dash begins with another byte
pub cell-fixed : (f : Bytes) → fits cell f ≡ true → is_var f ≡ false
unfolding fits
cell-fixed f h = not-variable f (λ q. true≢false (sym (and_right (clean f) (is_kind cell f) h) ∙ no_cell f q))

-- ---- slots in turn

opened-next : (σ : Slot) (ss : List Slot) (i : ℕ) → opened (σ ∷ ss) (suc i) ≡ opened ss i
unfolding opened
opened-next (term k) ss i = refl
opened-next (text k) ss i = refl
opened-next count ss i = refl
opened-next choice ss i = refl

spots-next : (m : Mark) (σ : Slot) (ss : List Slot) (i at : ℕ) (fs : List Bytes) → spots_in m (σ ∷ ss) (suc i) at fs ≡ spots_in m ss i at fs
unfolding spots_in
spots-next m σ ss i at [] = refl
spots-next m σ ss i at (f ∷ fs) = rw (opened-next σ ss i, spots-next m σ ss (suc i) (at + length f + 1) fs)

-- no slots are left: all fields may be variables
spots-open : (m : Mark) (i j at : ℕ) (fs : List Bytes) → spots_in m [] i at fs ≡ spots_in m [] j at fs
unfolding spots_in opened
spots-open m i j at [] = refl
spots-open m i j at (f ∷ fs) = rw (spots-open m (suc i) (suc j) (at + length f + 1) fs)

opened-alone : (κ : Kind) (i : ℕ) → opened (term κ ∷ []) i ≡ true
unfolding opened
opened-alone κ zero = refl
opened-alone κ (suc i) = refl

spots-alone : (m : Mark) (κ : Kind) (i j at : ℕ) (fs : List Bytes) → spots_in m (term κ ∷ []) i at fs ≡ spots_in m [] j at fs
unfolding spots_in opened
spots-alone m κ i j at [] = refl
spots-alone m κ i j at (f ∷ fs) = rw (opened-alone κ i, spots-alone m κ (suc i) (suc j) (at + length f + 1) fs)

spots-shut : (m : Mark) (σ : Slot) (ss : List Slot) (at : ℕ) (f : Bytes) (fs : List Bytes) → (opened (σ ∷ ss) 0 && is_var f) ≡ false → spots_in m (σ ∷ ss) 0 at (f ∷ fs) ≡ spots_in m ss 0 (at + length f + 1) fs
unfolding spots_in
spots-shut m σ ss at f fs h = rw h (spots-next m σ ss 0 (at + length f + 1) fs)

spots-none : (m : Mark) (at : ℕ) (f : Bytes) (fs : List Bytes) → is_var f ≡ false → spots_in m [] 0 at (f ∷ fs) ≡ spots_in m [] 0 (at + length f + 1) fs
unfolding spots_in opened
spots-none m at f fs h = rw h (spots-open m 1 0 (at + length f + 1) fs)

spots-term : (m : Mark) (κ : Kind) (ss : List Slot) (at : ℕ) (f : Bytes) (fs : List Bytes) → spots_in m (term κ ∷ ss) 0 at (f ∷ fs) ≡ one_spot m at f ++ spots_in m ss 0 (at + length f + 1) fs
unfolding spots_in opened
spots-term m κ ss at f fs = go (is_var f)
  where
    go : (b : Bool) → cond b (spot at f m ∷ spots_in m (term κ ∷ ss) 1 (at + length f + 1) fs) (spots_in m (term κ ∷ ss) 1 (at + length f + 1) fs) ≡ cond b (spot at f m ∷ []) [] ++ spots_in m ss 0 (at + length f + 1) fs
    go true = rw (spots-next m (term κ) ss 0 (at + length f + 1) fs)
    go false = spots-next m (term κ) ss 0 (at + length f + 1) fs

-- ---- places: what is left ends at the line's end

size-split : (l : Bytes) → fields_size (split 9 l) ≡ suc (length l)
unfolding split onto fields_size
size-split [] = refl
size-split (x ∷ l) = go (eqb x 9) (split 9 l) (size-split l)
  where
    go : (b : Bool) (ps : List Bytes) → fields_size ps ≡ suc (length l) → fields_size (cond b ([] ∷ ps) (onto x ps)) ≡ suc (suc (length l))
    go true ps h = omega arith
    go false [] h = absurd (omega arith)
    go false (p ∷ ps) h = omega arith

pub left-size : (s : Bytes) (c : Cursor) → InLine s c → c.at ≤ c.end + 1 → c.at + fields_size (left_at s c) ≡ c.end + 1
unfolding left fields_size
left-size s c line h = ⊎_elim inside past (le-or-lt c.at c.end)
  where
    inside : c.at ≤ c.end → c.at + fields_size (left_at s c) ≡ c.end + 1
    inside l =
        let a : fields_size (left_at s c) ≡ suc (length (part c.at c.end s)) = rw (le-leb c.at c.end l) (size-split (part c.at c.end s)) in
        let e = line.ends in
        let b : length (part c.at c.end s) ≡ c.end - c.at = simp (length-take, length-drop) (omega arith) in
        omega arith

    past : c.end < c.at → c.at + fields_size (left_at s c) ≡ c.end + 1
    past l = let a : fields_size (left_at s c) ≡ 0 = rw (lt-leb c.at c.end l) in omega arith

-- ---- a step over a field that is no variable

-- the slot took a field, which is none
pub record Passes (σ : Slot) (l r : List Bytes) : Type 0 where
  pub field : Bytes
  pub all : l ≡ field ∷ r
  pub shut : (ss : List Slot) → (opened (σ ∷ ss) 0 && is_var field) ≡ false

pub passes-text : (κ : Kind) (l r : List Bytes) → rest_of (take_field (text κ) l) ≡ some r → Passes (text κ) l r
unfolding opened kept
passes-text κ [] r e = let z : ◌≡◌ {A = ℕ} 0 1 = cc in absurd (omega arith)
passes-text κ (f ∷ fs) r e = go (fits κ f) e
  where
    go : (b : Bool) → rest_of (kept b (took fs [] 0)) ≡ some r → Passes (text κ) (f ∷ fs) r
    go true q = let i : fs ≡ r = cc in record { field = f; all = ap (λ (x : List Bytes). f ∷ x) i; shut = λ ss. refl }
    go false q = let z : ◌≡◌ {A = ℕ} 0 1 = cc in absurd (omega arith)

pub passes_count : (l r : List Bytes) → rest_of (take_field count l) ≡ some r → Passes count l r
unfolding opened
passes_count [] r e = let z : ◌≡◌ {A = ℕ} 0 1 = cc in absurd (omega arith)
passes_count (f ∷ fs) r e = go (number_of f) refl e
  where
    go : (o : Option ℕ) → number_of f ≡ o → rest_of (mapped (λ n. took fs [] n) o) ≡ some r → Passes count (f ∷ fs) r
    go (some n) p q = let i : fs ≡ r = cc in record { field = f; all = ap (λ (x : List Bytes). f ∷ x) i; shut = λ ss. number-fixed f n p }
    go none p q = let z : ◌≡◌ {A = ℕ} 0 1 = cc in absurd (omega arith)

-- a choice that was taken is a count
pub choice-count : (l r : List Bytes) → rest_of (take_field choice l) ≡ some r → take_field choice l ≡ take_field count l
choice-count l r e = ⊎_elim (λ h. choice-small l h) (λ h. none_is (choice-large l h)) (le-or-lt (number_taken (take_field count l)) 1)
  where
    none_is : take_field choice l ≡ none → take_field choice l ≡ take_field count l
    none_is q = let z : ◌≡◌ {A = ℕ} 0 1 = (let w : none ≡ some r = ap rest_of (sym q) ∙ e in cc) in absurd (omega arith)

pub passes-choice : (l r : List Bytes) → rest_of (take_field choice l) ≡ some r → Passes choice l r
unfolding opened
passes-choice l r e =
    let p = passes_count l r (ap rest_of (sym (choice-count l r e)) ∙ e) in
    record { field = p.field; all = p.all; shut = λ ss. p.shut ss }

-- a cursor that is not failed comes from one that is not
pub came_from : (s : Bytes) (c d : Cursor) (σ : Slot) → Follows s c (rest_of (take_field σ (left_at s c))) d → d.at ≤ c.end + 1 → c.at ≤ c.end
came_from s c d σ f h = ⊎_elim (λ l. l) (λ l. absurd (past l)) (le-or-lt c.at c.end)
  where
    past : c.end < c.at → ⊥
    past l =
        let x = (follows-fine s c d (rest_of (take_field σ (left_at s c))) f h).0 in
        let n : rest_of (take_field σ (left_at s c)) ≡ none = rw (left-none s c.at c.end l) in
        let w : none ≡ some (left_at s d) = sym n ∙ x in
        let z : ◌≡◌ {A = ℕ} 0 1 = cc in
        omega arith

module _ (s : Bytes) (c d : Cursor) (line : InLine s c) (line' : InLine s d) (along : Along c d) (high : c.at ≤ c.end + 1) (low : d.at ≤ c.end + 1) where
  -- behind a field
  pub behind : (f : Bytes) → left_at s c ≡ f ∷ left_at s d → c.at + length f + 1 ≡ d.at
  unfolding fields_size
  behind f e =
      let a = left-size s c line high in
      let b = left-size s d line' (let q = along.0 in omega arith) in
      let k : fields_size (left_at s c) ≡ suc (length f + fields_size (left_at s d)) = ap fields_size e in
      let q = along.0 in
      omega arith

  pub found_passed : (m : Mark) (σ : Slot) (ss : List Slot) → Passes σ (left_at s c) (left_at s d) → found m (σ ∷ ss) s c ≡ found m ss s d
  found_passed m σ ss p =
      ap (spots_in m (σ ∷ ss) 0 c.at) p.all
      ∙ spots-shut m σ ss c.at p.field (left_at s d) (p.shut ss)
      ∙ ap (λ (i : ℕ). spots_in m ss 0 i (left_at s d)) (behind p.field p.all)

  pub found-term : (m : Mark) (κ : Kind) (ss : List Slot) (f : Bytes) → left_at s c ≡ f ∷ left_at s d → found m (term κ ∷ ss) s c ≡ one_spot m c.at f ++ found m ss s d
  found-term m κ ss f e =
      ap (spots_in m (term κ ∷ ss) 0 c.at) e
      ∙ spots-term m κ ss c.at f (left_at s d)
      ∙ ap (λ (i : ℕ). one_spot m c.at f ++ spots_in m ss 0 i (left_at s d)) (behind f e)

-- a term without slots behind it
pub found-alone : (m : Mark) (κ : Kind) (s : Bytes) (c : Cursor) → found m (term κ ∷ []) s c ≡ found m [] s c
found-alone m κ s c = spots-alone m κ 0 0 c.at (left_at s c)

-- nothing is left
pub found-end : (m : Mark) (ss : List Slot) (s : Bytes) (c : Cursor) → c.at ≡ c.end + 1 → found m ss s c ≡ []
unfolding spots_in
found-end m ss s c e = rw (left-none s c.at c.end (omega arith))

-- ---- fields without variables behind the slots

cells-pass : (n : ℕ) (m : Mark) (l r : List Bytes) (at to : ℕ) → rest_in (take_times n (text cell) l) ≡ some r → at + fields_size l ≡ to + fields_size r → spots_in m [] 0 at l ≡ spots_in m [] 0 to r
unfolding fields_size kept
cells-pass zero m l r at to e h =
    let q : some l ≡ some r = sym (times-end (text cell) l) ∙ e in
    let i : l ≡ r = cc in
    let j : at ≡ to = let k = ap fields_size i in omega arith in
    ap₂ (λ (x : ℕ) (y : List Bytes). spots_in m [] 0 x y) j i
cells-pass (suc n) m l r at to e h =
    let q : and_then (rest_of (take_field (text cell) l)) (λ x. rest_in (take_times n (text cell) x)) ≡ some r = sym (times_more (text cell) n l) ∙ e in
    one l q h (λ x u k p. cells-pass n m x r u to p k)
  where
    one : (l : List Bytes) → and_then (rest_of (take_field (text cell) l)) (λ x. rest_in (take_times n (text cell) x)) ≡ some r → at + fields_size l ≡ to + fields_size r
        → ((x : List Bytes) (u : ℕ) → u + fields_size x ≡ to + fields_size r → rest_in (take_times n (text cell) x) ≡ some r → spots_in m [] 0 u x ≡ spots_in m [] 0 to r)
        → spots_in m [] 0 at l ≡ spots_in m [] 0 to r
    one [] q h go = let z : ◌≡◌ {A = ℕ} 0 1 = cc in absurd (omega arith)
    one (f ∷ fs) q h go = fit (fits cell f) refl q
      where
        fit : (b : Bool) → fits cell f ≡ b → and_then (rest_of (kept b (took fs [] 0))) (λ x. rest_in (take_times n (text cell) x)) ≡ some r → spots_in m [] 0 at (f ∷ fs) ≡ spots_in m [] 0 to r
        fit true p w = spots-none m at f fs (cell-fixed f p) ∙ go fs (at + length f + 1) (omega arith) w
        fit false p w = let z : ◌≡◌ {A = ℕ} 0 1 = cc in absurd (omega arith)

pub plain-pass : (kind width : ℕ) (m : Mark) (l r : List Bytes) (at to : ℕ) → kind ≤ 3 → (kind ≡ 1 → ⊥) → (kind ≡ 2 → ⊥) → rest_in (take_tail (tail_of kind) width l) ≡ some r → at + fields_size l ≡ to + fields_size r → spots_in m [] 0 at l ≡ spots_in m [] 0 to r
unfolding take_tail
plain-pass zero width m l r at to h a b e q = let i : l ≡ r = cc in let j : at ≡ to = let k = ap fields_size i in omega arith in ap₂ (λ (x : ℕ) (y : List Bytes). spots_in m [] 0 x y) j i
plain-pass (suc zero) width m l r at to h a b e q = absurd (a refl)
plain-pass (suc (suc zero)) width m l r at to h a b e q = absurd (b refl)
plain-pass (suc (suc (suc zero))) width m l r at to h a b e q = cells-pass width m l r at to e q
plain-pass (suc (suc (suc (suc k)))) width m l r at to h a b e q = absurd (omega arith)

pub found_plain : (s : Bytes) (c d : Cursor) (kind width : ℕ) (m : Mark) → InLine s c → InLine s d → c.at ≤ c.end + 1 → kind ≤ 3 → (kind ≡ 1 → ⊥) → (kind ≡ 2 → ⊥)
    → Follows s c (rest_in (take_tail (tail_of kind) width (left_at s c))) d → d.at ≤ c.end + 1 → found m [] s c ≡ found m [] s d
found_plain s c d kind width m line line' high k a b f low =
    let x = follows-fine s c d _ f low in
    let e = x.2.0 in
    plain-pass kind width m (left_at s c) (left_at s d) c.at d.at k a b x.0 (left-size s c line high ∙ (ap (λ (i : ℕ). i + 1) (sym e) ∙ sym (left-size s d line' (omega arith))))
