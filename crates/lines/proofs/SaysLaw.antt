-- The fields of a whole line, slots and tail together. Assumes nothing.
use Prim.Native.Nat.{ℕ, ◌+◌, ◌≤◌, ◌<◌}
use mathlib.Core.Path.{◌≡◌, refl, sym, ◌∙◌, ap}
use mathlib.Core.List.{List, [], ◌∷◌, ◌++◌}
use mathlib.Core.Bool.{Bool, true, false, cond}
use mathlib.Core.Option.{Option, none, some}
use mathlib.Core.Logic.{⊎_elim}
use native.Mathlib.Omega.{arith}
use lib.ListN.{get_or}
use lib.Dec.{eqb}
use borrow.Author.Tests.{le-leb}
use Rattle.text.specs.Text.{Bytes, split, onto, part}
use Rattle.cursor.specs.declared.Cursor.{Cursor}
use Rattle.cursor.specs.bridge.Cursor.{left}
use Rattle.cursor.proofs.Laws.{left-none}
use Rattle.algebra.specs.bridge.Table.{Tail, nothing, columns, variables, texts, values, value}
use Rattle.words.specs.declared.Row.{Row as Code}
use Rattle.words.specs.bridge.Code.{row_of}
use Rattle.lines.specs.bridge.Line.{Fields, fields, take_slots, take_tail, whole, take_line, columns_of}
use Rattle.lines.specs.bridge.Steps.{InLine, left_at, Along, Follows, rest_in, terms_in, numbers_in, TookSlots}
use Rattle.lines.specs.bridge.Says.{Says}
use Rattle.lines.proofs.RepeatLaw.{follows-along, follows-fine, follows-fault, follows-line}
use Rattle.lines.proofs.SlotLaw.{le-or-lt}
use Rattle.lines.proofs.LineLaw.{columns-bare}

-- ---- what is left at a cursor

split-some : (b : ℕ) (xs : Bytes) → split b xs ≡ [] → ⊥
unfolding split onto
split-some b [] e = let z : ◌≡◌ {A = ℕ} 0 1 = cc in omega arith
split-some b (x ∷ xs) e = go (eqb x b) (split b xs) e
  where
    go : (t : Bool) (ps : List Bytes) → cond t ([] ∷ ps) (onto x ps) ≡ [] → ⊥
    go true ps e = let z : ◌≡◌ {A = ℕ} 0 1 = cc in omega arith
    go false [] e = let z : ◌≡◌ {A = ℕ} 0 1 = cc in omega arith
    go false (p ∷ ps) e = let z : ◌≡◌ {A = ℕ} 0 1 = cc in omega arith

-- before the end of a line a field is left
some_left : (s : Bytes) (c : Cursor) → c.at ≤ c.end → left_at s c ≡ [] → ⊥
unfolding left
some_left s c h e = split-some 9 (part c.at c.end s) (rw (le-leb c.at c.end h) at e)

-- ---- slots and tail

-- something was taken, and what is left stands at the cursor
taken : (s : Bytes) (c d : Cursor) (o : Option Fields) → Follows s c (rest_in o) d → d.at ≤ c.end + 1 → (u : Fields) × (o ≡ some u) × (u.rest ≡ left_at s d)
taken s c d none f h = let g = (follows-fine s c d none f h).0 in let z : ◌≡◌ {A = ℕ} 0 1 = cc in absurd (omega arith)
taken s c d (some u) f h = let g = (follows-fine s c d (some u.rest) f h).0 in (u, refl, cc)

missed : (s : Bytes) (c d : Cursor) (o : Option Fields) → Follows s c (rest_in o) d → c.end + 1 < d.at → o ≡ none
missed s c d none f h = refl
missed s c d (some u) f h = let g = (follows-fault s c d (some u.rest) f h).0 in let z : ◌≡◌ {A = ℕ} 0 1 = cc in absurd (omega arith)

columns-front : (t : Tail) (ts us : List Bytes) → (t ≡ columns → ts ≡ []) → columns_of t (ts ++ us) ≡ columns_of t us
columns-front nothing ts us h = refl
columns-front columns ts us h = rw (h refl)
columns-front variables ts us h = refl
columns-front (texts κ) ts us h = refl
columns-front values ts us h = refl
columns-front value ts us h = refl

module _ (s : Bytes) (c a : Cursor) (row : Code) (w x y : ℕ) (slots : TookSlots s c (take_slots (row_of row).slots (left_at s c)) a x y) where
  abbrev line : Option Fields
  line = take_line (row_of row) w (left_at s c)

  first-follows : Follows s c (rest_in (take_slots (row_of row).slots (left_at s c))) a
  unfolding TookSlots
  first-follows = slots.0

  pub same_line : Along c a
  same_line = follows-along s c a (rest_in (take_slots (row_of row).slots (left_at s c))) first-follows

  pub next-line : InLine s c → InLine s a
  next-line i = follows-line s c a (rest_in (take_slots (row_of row).slots (left_at s c))) i first-follows

  small : (x < 4294967296) × (y < 4294967296)
  unfolding TookSlots
  small = (slots.1, slots.2)

  numbers : a.at ≤ c.end + 1 → (get_or (numbers_in (take_slots (row_of row).slots (left_at s c))) 0 0 ≡ x) × (get_or (numbers_in (take_slots (row_of row).slots (left_at s c))) 1 0 ≡ y)
  unfolding TookSlots
  numbers = slots.3

  -- the slots could not all be taken
  pub says-fault : a.end + 1 < a.at → Says c line (row_of row).tail a x y 0
  unfolding take_line
  says-fault h =
      let e = same_line.0 in
      let m : take_slots (row_of row).slots (left_at s c) ≡ none = missed s c a (take_slots (row_of row).slots (left_at s c)) first-follows (omega arith) in
      record { along = same_line; small = small; whole = λ q. absurd (omega arith); broken = λ q. rw m }

  module _ (d : Cursor) (k : ℕ) (fine : a.at ≤ a.end + 1) (tail : Follows s a (rest_in (take_tail (row_of row).tail w (left_at s a))) d) (width : d.at ≤ a.end + 1 → columns_of (row_of row).tail (terms_in (take_tail (row_of row).tail w (left_at s a))) ≡ k) where
    ends : d.end ≡ c.end
    ends = (follows-along s a d _ tail).0 ∙ same_line.0

    fine-c : a.at ≤ c.end + 1
    fine-c = let e = same_line.0 in omega arith

    bare : (t : Fields) → take_slots (row_of row).slots (left_at s c) ≡ some t → (row_of row).tail ≡ columns → t.terms ≡ []
    unfolding take_slots
    bare t e q = let z : some (fields (left_at s c) [] []) ≡ some t = sym (ap (λ ss. take_slots ss (left_at s c)) (columns-bare row q)) ∙ e in cc

    line-is : (t u : Fields) → take_slots (row_of row).slots (left_at s c) ≡ some t → t.rest ≡ left_at s a → take_tail (row_of row).tail w (left_at s a) ≡ some u → line ≡ whole (fields u.rest (t.terms ++ u.terms) t.numbers)
    unfolding take_line
    line-is t u p q r = rw (p, q, r)

    take-lost : (t : Fields) → take_slots (row_of row).slots (left_at s c) ≡ some t → t.rest ≡ left_at s a → take_tail (row_of row).tail w (left_at s a) ≡ none → line ≡ none
    unfolding take_line
    take-lost t p q m = rw (p, q, m)

    pub line-whole : d.at ≡ c.end + 1 → (t u : Fields) × (take_slots (row_of row).slots (left_at s c) ≡ some t) × (take_tail (row_of row).tail w (left_at s a) ≡ some u) × (line ≡ some (fields [] (t.terms ++ u.terms) t.numbers))
    line-whole h =
        let e = same_line.0 in
        let t = taken s c a _ first-follows fine-c in
        let u = taken s a d _ tail (omega arith) in
        let past : d.end < d.at = let q = ends in omega arith in
        let none_left : u.0.rest ≡ [] = u.2 ∙ left-none s d.at d.end past in
        (t.0, u.0, t.1, u.1, line-is t.0 u.0 t.1 t.2 u.1 ∙ rw none_left)

    line-broken : (d.at ≡ c.end + 1 → ⊥) → line ≡ none
    line-broken h =
        let e = same_line.0 in
        let t = taken s c a _ first-follows fine-c in
        ⊎_elim
        (λ (q : d.at ≤ a.end + 1).
        let u = taken s a d _ tail q in
        let more : left_at s d ≡ [] → ⊥ = some_left s d (let z = ends in let y : d.at ≡ c.end + 1 → ⊥ = h in omega arith) in
        line-is t.0 u.0 t.1 t.2 u.1 ∙ over u.0 t.0 (λ z. more (sym u.2 ∙ z)))
        (λ (q : a.end + 1 < d.at). let m = missed s a d _ tail q in take-lost t.0 t.1 t.2 m)
        (le-or-lt d.at (a.end + 1))
      where
        over : (u t : Fields) → (u.rest ≡ [] → ⊥) → whole (fields u.rest (t.terms ++ u.terms) t.numbers) ≡ none
        over u t f = go u.rest f
          where
            go : (l : List Bytes) → (l ≡ [] → ⊥) → whole (fields l (t.terms ++ u.terms) t.numbers) ≡ none
            go [] f = absurd (f refl)
            go (x ∷ l) f = refl

    pub says-whole : Says c line (row_of row).tail d x y k
    says-whole = record {
      along = (ends, (follows-along s a d _ tail).1 ∙ same_line.1);
      small = small;
      whole = λ h.
          let v = line-whole h in
          let n = numbers fine-c in
          let e = same_line.0 in
          let j : numbers_in (take_slots (row_of row).slots (left_at s c)) ≡ v.0.numbers = ap numbers_in v.2 in
          let g : terms_in (take_tail (row_of row).tail w (left_at s a)) ≡ v.1.terms = ap terms_in v.3 in (
            fields [] (v.0.terms ++ v.1.terms) v.0.numbers,
            v.4,
            ap (λ l. get_or l 0 0) (sym j) ∙ n.0,
            ap (λ l. get_or l 1 0) (sym j) ∙ n.1,
            columns-front (row_of row).tail v.0.terms v.1.terms (bare v.0 v.2) ∙ (ap (columns_of (row_of row).tail) (sym g) ∙ width (omega arith)),
          );
      broken = line-broken;
    }

    pub terms-whole : d.at ≡ c.end + 1 → terms_in line ≡ terms_in (take_slots (row_of row).slots (left_at s c)) ++ terms_in (take_tail (row_of row).tail w (left_at s a))
    terms-whole h = let v = line-whole h in ap terms_in v.4 ∙ rw (v.2, v.3)
