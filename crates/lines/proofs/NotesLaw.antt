-- A line by its word and its fields: the spots that were noted are those of the walk, and it asks for what the walk goes on with. Assumes nothing.
use Prim.Native.Nat.{ℕ, zero, suc, ◌+◌, ◌/◌, ◌%◌, ◌≤◌, ◌<◌}
use mathlib.Core.Path.{◌≡◌, refl, sym, ◌∙◌, ap, ap₂, subst}
use mathlib.Core.List.{List, [], ◌∷◌, ◌++◌, append-nil}
use mathlib.Core.Bool.{Bool, true, false, cond, not, ◌&&◌, ◌||◌, false≢true}
use mathlib.Core.Option.{Option, none, some}
use native.Mathlib.Omega.{arith}
use lib.ListN.{length, get_or}
use lib.Dec.{eqb, leb, ltb}
use borrow.Author.Tests.{leb-true, eqb-false, not-true, ltb-true}
use Rattle.text.specs.Text.{Bytes, Line, same, split, part}
use Rattle.text.specs.Word.{bytes}
use Rattle.text.specs.Field.{Kind, opaque, form, number_of, fits}
use Rattle.text.specs.bridge.Code.{kind_at}
use Rattle.text.proofs.Basics.{and_left, and_right, same-eq}
use Rattle.cursor.specs.declared.Cursor.{Cursor}
use Rattle.cursor.proofs.Laws.{left-all, Next}
use Rattle.algebra.specs.Reader.{kept, zero_one}
use Rattle.algebra.specs.bridge.Table.{Slot, term, text, count, choice, Sort, triples, columns, patterns, expressions, rows, orders, aggregates, heads, sets, positions, value_rows, parts, Row, row as a_row, one, ◌of◌, Entry, rows_of, row_in, row_for, opens}
use Rattle.scoping.specs.bridge.Places.{Mark}
use Rattle.scoping.specs.bridge.Walk.{State, state, number_in, hides, beneath, whole}
use Rattle.scoping.specs.bridge.Spots.{Spot, spots_in, fields_size, Node, node, Group, noted, Trace, trace, line_spots, line_nodes, spot_line}
use Rattle.words.specs.declared.Row.{Row as Code}
use Rattle.words.specs.bridge.Code.{Found, one_slot, slots_in, mapped, sort_at, row_of, row_found, sorts_in, counting, counts_in, in_tree, Tidy, flag_of, Flags}
use Rattle.lines.specs.declared.line.Asked.{Asked}
use Rattle.lines.specs.bridge.Below.{amount_in}
use Rattle.lines.specs.bridge.Line.{and_then, Took, took, take_field, Fields, fields, take_slots, take_tail, take_line}
use Rattle.lines.specs.bridge.Line as W
use Rattle.lines.specs.bridge.Steps.{InLine, left_at, rest_of}
use Rattle.words.specs.bridge.Code as codes
use Rattle.words.specs.bridge.Words.{code_at}
use Rattle.lines.specs.bridge.Says.{Says, Heads, Sure}
use Rattle.lines.specs.bridge.Spotted.{mark_at}
use Rattle.lines.specs.bridge.Stored.{store, Keeps, Adds, found, line_node, LineNotes}
use Rattle.lines.proofs.StepLaw.{field, left_is, in-line}
use Rattle.lines.proofs.SlotLaw.{slots-more, under-others}
use Rattle.lines.proofs.StoreLaw.{keeps-at, keeps_cut}
use Rattle.lines.proofs.SpotsLaw.{choice-count, left-size, behind, found-end}
use Rattle.lines.proofs.WalkLaw.{beneath-same, groups-same, whole-line}
use Rattle.std.specs.Prelude.{Some, Ok, Err}
use Rattle.algebra.specs.declared.Fault.TheVariants.{Malformed, OverBound}

-- ---- what the word means for names

flag-hides : (w : Bytes) → eqb (flag_of w) 1 ≡ hides w
unfolding flag_of hides
flag-hides w = go (same w (bytes "project") || (same w (bytes "group") || same w (bytes "minus"))) (same w (bytes "service"))
  where
    go : (x y : Bool) → eqb (cond x 1 (cond y 2 0)) 1 ≡ x
    go true y = refl
    go false true = refl
    go false false = refl

flag-stays : (w : Bytes) → eqb (flag_of w) 2 ≡ same w (bytes "service")
unfolding flag_of same
flag-stays w = go (same w (bytes "service")) refl
  where
    other : (x : Bool) → same w (bytes "service") ≡ false → eqb (cond x 1 (cond (same w (bytes "service")) 2 0)) 2 ≡ false
    other true e = refl
    other false e = rw e

    go : (y : Bool) → same w (bytes "service") ≡ y → eqb (flag_of w) 2 ≡ y
    go true e = ap (λ (x : Bytes). eqb (flag_of x) 2) (same-eq w (bytes "service") e)
    go false e = other (same w (bytes "project") || (same w (bytes "group") || same w (bytes "minus"))) e

-- ---- the numbers of a line

-- a slot's number is the number that its field is
abbrev Counts : Slot → Type 0
Counts σ = (l : List Bytes) (t : Took) → take_field σ l ≡ some t → t.number ≡ number_in (get_or l 0 [])

counts-count : Counts count
counts-count [] t e = let z : ◌≡◌ {A = ℕ} 0 1 = cc in absurd (omega arith)
counts-count (f ∷ fs) t e = go (number_of f) refl e
  where
    go : (o : Option ℕ) → number_of f ≡ o → mapped (λ n. took fs [] n) o ≡ some t → t.number ≡ number_in f
    go none p q = let z : ◌≡◌ {A = ℕ} 0 1 = cc in absurd (omega arith)
    go (some n) p q = let i : took fs [] n ≡ t = cc in sym (ap (λ (x : Took). x.number) i) ∙ sym (rw p)

counts-choice : Counts choice
counts-choice l t e = counts-count l t (sym (choice-count l t.rest (ap rest_of e)) ∙ e)

counts-role : (r : ℕ) (κ : Kind) → 3 ≤ r → Counts (one_slot r κ)
unfolding one_slot
counts-role zero κ h = absurd (omega arith)
counts-role (suc zero) κ h = absurd (omega arith)
counts-role (suc (suc zero)) κ h = absurd (omega arith)
counts-role (suc (suc (suc zero))) κ h = counts-count
counts-role (suc (suc (suc (suc r)))) κ h = counts-choice

-- behind a slot the next field stands
rest-next : (σ : Slot) (l : List Bytes) (t : Took) → take_field σ l ≡ some t → get_or t.rest 0 [] ≡ get_or l 1 []
unfolding kept
rest-next σ [] t e = let z : ◌≡◌ {A = ℕ} 0 1 = cc in absurd (omega arith)
rest-next (term κ) (f ∷ fs) t e = go (fits κ f) e
  where
    go : (b : Bool) → kept b (took fs (f ∷ []) 0) ≡ some t → get_or t.rest 0 [] ≡ get_or fs 0 []
    go true q = let i : took fs (f ∷ []) 0 ≡ t = cc in ap (λ (x : Took). get_or x.rest 0 []) (sym i)
    go false q = let z : ◌≡◌ {A = ℕ} 0 1 = cc in absurd (omega arith)
rest-next (text κ) (f ∷ fs) t e = go (fits κ f) e
  where
    go : (b : Bool) → kept b (took fs [] 0) ≡ some t → get_or t.rest 0 [] ≡ get_or fs 0 []
    go true q = let i : took fs [] 0 ≡ t = cc in ap (λ (x : Took). get_or x.rest 0 []) (sym i)
    go false q = let z : ◌≡◌ {A = ℕ} 0 1 = cc in absurd (omega arith)
rest-next count (f ∷ fs) t e = go (number_of f) e
  where
    go : (o : Option ℕ) → mapped (λ n. took fs [] n) o ≡ some t → get_or t.rest 0 [] ≡ get_or fs 0 []
    go none q = let z : ◌≡◌ {A = ℕ} 0 1 = cc in absurd (omega arith)
    go (some n) q = let i : took fs [] n ≡ t = cc in ap (λ (x : Took). get_or x.rest 0 []) (sym i)
rest-next choice (f ∷ fs) t e = go (zero_one f) e
  where
    go : (o : Option Bool) → mapped (λ b. took fs [] (cond b 1 0)) o ≡ some t → get_or t.rest 0 [] ≡ get_or fs 0 []
    go none q = let z : ◌≡◌ {A = ℕ} 0 1 = cc in absurd (omega arith)
    go (some n) q = let i : took fs [] (cond n 1 0) ≡ t = cc in ap (λ (x : Took). get_or x.rest 0 []) (sym i)

-- the first slot, and those behind it
record Split (σ : Slot) (ss : List Slot) (l : List Bytes) (u : Fields) : Type 0 where
  pub one : Took
  pub took_one : take_field σ l ≡ some one
  pub more : Fields
  pub took_more : take_slots ss one.rest ≡ some more
  pub numbers : u.numbers ≡ one.number ∷ more.numbers

splits : (σ : Slot) (ss : List Slot) (l : List Bytes) (u : Fields) → take_slots (σ ∷ ss) l ≡ some u → Split σ ss l u
unfolding take_slots
splits σ ss l u e = go (take_field σ l) refl e
  where
    inner : (t : Took) → take_field σ l ≡ some t → (o : Option Fields) → take_slots ss t.rest ≡ o → mapped (λ v. fields v.rest (t.terms ++ v.terms) (t.number ∷ v.numbers)) o ≡ some u → Split σ ss l u
    inner t p none r q = let z : ◌≡◌ {A = ℕ} 0 1 = cc in absurd (omega arith)
    inner t p (some v) r q = let i : fields v.rest (t.terms ++ v.terms) (t.number ∷ v.numbers) ≡ u = cc in record { one = t; took_one = p; more = v; took_more = r; numbers = ap (λ (x : Fields). x.numbers) (sym i) }

    go : (o : Option Took) → take_field σ l ≡ o → and_then o (λ t. mapped (λ v. fields v.rest (t.terms ++ v.terms) (t.number ∷ v.numbers)) (take_slots ss t.rest)) ≡ some u → Split σ ss l u
    go none p q = let z : ◌≡◌ {A = ℕ} 0 1 = cc in absurd (omega arith)
    go (some t) p q = inner t p (take_slots ss t.rest) refl q

-- that of a text is none
text-none : (κ : Kind) (l : List Bytes) (t : Took) → take_field (text κ) l ≡ some t → t.number ≡ 0
unfolding kept
text-none κ [] t e = let z : ◌≡◌ {A = ℕ} 0 1 = cc in absurd (omega arith)
text-none κ (f ∷ fs) t e = go (fits κ f) e
  where
    go : (b : Bool) → kept b (took fs [] 0) ≡ some t → t.number ≡ 0
    go true q = let i : took fs [] 0 ≡ t = cc in ap (λ (x : Took). x.number) (sym i)
    go false q = let z : ◌≡◌ {A = ℕ} 0 1 = cc in absurd (omega arith)

text-number : (κ : Kind) (ss : List Slot) (l : List Bytes) (u : Fields) → take_slots (text κ ∷ ss) l ≡ some u → get_or u.numbers 0 0 ≡ 0
text-number κ ss l u e = let p = splits (text κ) ss l u e in ap (λ (x : List ℕ). get_or x 0 0) p.numbers ∙ text-none κ l p.one p.took_one

first-number : (σ : Slot) (ss : List Slot) (l : List Bytes) (u : Fields) → Counts σ → take_slots (σ ∷ ss) l ≡ some u → get_or u.numbers 0 0 ≡ number_in (get_or l 0 [])
first-number σ ss l u k e = let p = splits σ ss l u e in ap (λ (x : List ℕ). get_or x 0 0) p.numbers ∙ k l p.one p.took_one

second-number : (σ τ : Slot) (ss : List Slot) (l : List Bytes) (u : Fields) → Counts τ → take_slots (σ ∷ τ ∷ ss) l ≡ some u → get_or u.numbers 1 0 ≡ number_in (get_or l 1 [])
second-number σ τ ss l u k e =
    let p = splits σ (τ ∷ ss) l u e in
    ap (λ (x : List ℕ). get_or x 1 0) p.numbers ∙ first-number τ ss p.one.rest p.more k p.took_more ∙ ap number_in (rest-next σ l p.one p.took_one)

line-slots : (r : Row) (n : ℕ) (l : List Bytes) (u : Fields) → take_line r n l ≡ some u → (t : Fields) × (take_slots r.slots l ≡ some t) × (t.numbers ≡ u.numbers)
unfolding take_line
line-slots r n l u e = go (take_slots r.slots l) refl e
  where
    end : (v : Fields) (t : Fields) (rest : List Bytes) → W.whole (fields rest (v.terms ++ t.terms) v.numbers) ≡ some u → v.numbers ≡ u.numbers
    end v t [] q = let i : fields [] (v.terms ++ t.terms) v.numbers ≡ u = cc in ap (λ (x : Fields). x.numbers) i
    end v t (f ∷ fs) q = let z : ◌≡◌ {A = ℕ} 0 1 = cc in absurd (omega arith)

    tail : (t : Fields) (o : Option Fields) → and_then o (λ v. W.whole (fields v.rest (t.terms ++ v.terms) t.numbers)) ≡ some u → t.numbers ≡ u.numbers
    tail t none q = let z : ◌≡◌ {A = ℕ} 0 1 = cc in absurd (omega arith)
    tail t (some v) q = end t v v.rest q

    go : (o : Option Fields) → take_slots r.slots l ≡ o → and_then o (λ t. and_then (take_tail r.tail n t.rest) (λ v. W.whole (fields v.rest (t.terms ++ v.terms) t.numbers))) ≡ some u
        → (t : Fields) × (take_slots r.slots l ≡ some t) × (t.numbers ≡ u.numbers)
    go none p q = let z : ◌≡◌ {A = ℕ} 0 1 = cc in absurd (omega arith)
    go (some t) p q = (t, p, tail t (take_tail r.tail n t.rest) q)

module _ (c : Code) (l : List Bytes) (u : Fields) (e : take_slots (row_of c).slots l ≡ some u) where
  first-is : (not (eqb c.behind 1) && leb 3 (c.fields % 16)) ≡ true → get_or u.numbers 0 0 ≡ number_in (get_or l 0 [])
  first-is h =
      let n : c.behind ≡ 1 → ⊥ = eqb-false c.behind 1 (not-true _ (and_left (not (eqb c.behind 1)) (leb 3 (c.fields % 16)) h)) in
      let r : 3 ≤ c.fields % 16 = leb-true 3 (c.fields % 16) (and_right (not (eqb c.behind 1)) (leb 3 (c.fields % 16)) h) in
      first-number _ _ l u (counts-role (c.fields % 16) _ r) (subst (λ (ss : List Slot). take_slots ss l ≡ some u) (under-others c.behind _ n ∙ slots-more 2 c.fields (λ z. omega arith)) e)

  second_is : (not (eqb c.behind 1) && leb 3 (c.fields / 256 % 16)) ≡ true → get_or u.numbers 1 0 ≡ number_in (get_or l 1 [])
  second_is h =
      let n : c.behind ≡ 1 → ⊥ = eqb-false c.behind 1 (not-true _ (and_left (not (eqb c.behind 1)) (leb 3 (c.fields / 256 % 16)) h)) in
      let r : 3 ≤ c.fields / 256 % 16 = leb-true 3 (c.fields / 256 % 16) (and_right (not (eqb c.behind 1)) (leb 3 (c.fields / 256 % 16)) h) in
      let σ = one_slot (c.fields % 16) (kind_at (c.fields / 16 % 16)) in
      second-number σ (one_slot (c.fields / 256 % 16) (kind_at (c.fields / 256 / 16 % 16))) (slots_in 1 (c.fields / 256 / 256)) l u (counts-role (c.fields / 256 % 16) (kind_at (c.fields / 256 / 16 % 16)) r)
      (subst (λ (ss : List Slot). take_slots ss l ≡ some u)
      (under-others c.behind (slots_in 3 c.fields) n ∙ slots-more 2 c.fields (λ z. omega arith) ∙ ap (λ (ss : List Slot). σ ∷ ss) (slots-more 1 (c.fields / 256) (λ z. omega arith))) e)

  amounts : (n k : ℕ) → counting c k ≡ true → amount_in n k (get_or u.numbers 0 0) (get_or u.numbers 1 0) ≡ amount_in n k (number_in (get_or l 0 [])) (number_in (get_or l 1 []))
  amounts n zero h = refl
  amounts n (suc zero) h = first-is h
  amounts n (suc (suc zero)) h = second_is h
  amounts n (suc (suc (suc zero))) h = ap (λ (i : ℕ). i + n) (first-is h)
  amounts n (suc (suc (suc (suc zero)))) h = ap (λ (i : ℕ). i + n) (second_is h)
  amounts n (suc (suc (suc (suc (suc k))))) h = refl

-- what the table says of a line of a tree
pub record Plain (c : Code) : Type 0 where
  pub sorts : sorts_in 6 3 c.below ≡ true
  pub tail : c.behind ≤ 3
  pub counts : counts_in c 3 c.below ≡ true

pub plain_row : (s : ℕ) (c : Code) → s ≤ 7 → in_tree s c ≡ true → Plain c
plain_row s c h e = go (ltb 7 s) refl e
  where
    go : (b : Bool) → ltb 7 s ≡ b → (b || (sorts_in 6 3 c.below && (leb c.behind 3 && counts_in c 3 c.below))) ≡ true → Plain c
    go true p q = let z = ltb-true 7 s p in absurd (omega arith)
    go false p q =
        let a = and_right (sorts_in 6 3 c.below) (leb c.behind 3 && counts_in c 3 c.below) q in record {
          sorts = and_left (sorts_in 6 3 c.below) (leb c.behind 3 && counts_in c 3 c.below) q;
          tail = leb-true c.behind 3 (and_left (leb c.behind 3) (counts_in c 3 c.below) a);
          counts = and_right (leb c.behind 3) (counts_in c 3 c.below) a;
        }

-- ---- the words of lines that are noted

-- each has two bytes at least
unfoldable long_words : List Entry → Bool
long_words [] = true
long_words (e ∷ es) = leb 2 (length e.word) && long_words es

long-in : (es : List Entry) (w : Bytes) (r : Row) → long_words es ≡ true → row_in es w ≡ some r → 2 ≤ length w
unfolding long_words row_in
long-in [] w r h e = let z : ◌≡◌ {A = ℕ} 0 1 = cc in absurd (omega arith)
long-in (x ∷ es) w r h e = go (λ q. long-in es w r (and_right (leb 2 (length x.word)) (long_words es) h) q) (same w x.word) refl e
  where
    go : (row_in es w ≡ some r → 2 ≤ length w) → (b : Bool) → same w x.word ≡ b → cond b (some x.row) (row_in es w) ≡ some r → 2 ≤ length w
    go on true p q = subst (λ (v : Bytes). 2 ≤ length v) (sym (same-eq w x.word p)) (leb-true 2 (length x.word) (and_left (leb 2 (length x.word)) (long_words es) h))
    go on false p q = on q

long-word : (s : Sort) (w : Bytes) (r : Row) → noted s ≡ true → row_for s w ≡ some r → 2 ≤ length w
unfolding long_words
long-word triples w r n e = absurd (false≢true n)
long-word columns w r n e = absurd (false≢true n)
long-word patterns w r n e = long-in (rows_of patterns) w r refl e
long-word expressions w r n e = long-in (rows_of expressions) w r refl e
long-word rows w r n e = absurd (false≢true n)
long-word orders w r n e = long-in (rows_of orders) w r refl e
long-word aggregates w r n e = long-in (rows_of aggregates) w r refl e
long-word heads w r n e = absurd (false≢true n)
long-word sets w r n e = absurd (false≢true n)
long-word positions w r n e = absurd (false≢true n)
long-word value_rows w r n e = absurd (false≢true n)
long-word parts w r n e = absurd (false≢true n)

-- ---- the line

module _ (s : Bytes) (c : Cursor) (e : ℕ) (d : Cursor) (i : InLine s c) (low : c.at ≤ c.end) (here : Next s c e d) (sort mark : ℕ) (f : Found) (is : row_found f ≡ row_for (sort_at sort) (field s c e d i here))
    (flags : Flags (field s c e d i here) f) (tidy : Tidy sort f) (row : Code) (q : f ≡ Some row) (width : ℕ) (b : Cursor) (x y k : ℕ)
    (says : Says d (take_line (row_of row) width (left_at s d)) (row_of row).tail b x y k) (z : b.at ≡ d.end + 1)
    (a l : List ℕ) (n : ℕ) (p : List (List ℕ)) (j : ℕ) (a' l' : List ℕ) (n' : ℕ) (p' : List (List ℕ)) (j' r : ℕ)
    (adds : b.at ≡ d.end + 1 → row.behind ≤ 3 → Adds s (store a l n p j) d.at (store a' l' n' p' j') b.at (found (mark_at mark) (row_of row).slots s d) (found (mark_at mark) [] s b))
    (counted : r ≡ cond (eqb row.flag 2) j j') (room : n' ≤ 1024) (number : ℕ) where
  abbrev word : Bytes
  word = field s c e d i here

  fields-are : split 9 (part c.at c.end s) ≡ field s c e d i here ∷ left_at s d
  fields-are = sym (left-all s c.at c.end low) ∙ left_is s c e d i here

  row-flag : row.flag ≡ flag_of (field s c e d i here)
  row-flag = subst (Flags (field s c e d i here)) q flags

  plain : sort ≤ 7 → Plain row
  plain h = plain_row sort row h (subst (Tidy sort) q tidy).2

  next-at : c.at + length (field s c e d i here) + 1 ≡ d.at
  next-at = let u = here.first.high in let v = here.at in behind s c d i (in-line s c e d i here) (here.end, here.awaited) (omega arith) (omega arith) (field s c e d i here) (left_is s c e d i here)

  end-at : c.at + length (field s c e d i here) + fields_size (left_at s d) + 1 ≡ c.end + 1
  unfolding fields_size
  end-at = let g = left-size s c i (omega arith) in let t : fields_size (left_at s c) ≡ suc (length (field s c e d i here) + fields_size (left_at s d)) = ap fields_size (left_is s c e d i here) in omega arith

  -- the numbers of the line count as its fields say
  counted-so : (m v : ℕ) → counting row v ≡ true → amount_in m v x y ≡ amount_in m v (number_in (get_or (left_at s d) 0 [])) (number_in (get_or (left_at s d) 1 []))
  counted-so m v u =
      let o = says.whole z in
      let t = line-slots (row_of row) width (left_at s d) o.0 o.1 in
      let same_first : get_or t.0.numbers 0 0 ≡ x = ap (λ (v : List ℕ). get_or v 0 0) t.2 ∙ o.2 in
      let same_second : get_or t.0.numbers 1 0 ≡ y = ap (λ (v : List ℕ). get_or v 1 0) t.2 ∙ o.3 in
      ap₂ (λ (x1 y1 : ℕ). amount_in m v x1 y1) (sym same_first) (sym same_second) ∙ amounts row (left_at s d) t.0 t.1 m v u

  abbrev answer : Asked
  answer = record { number = number; row = row; first = x; second = y; names = n'; spots = r }

  -- the line's own step of the walk
  node-is : sort ≤ 7 → (j : ℕ) → line_node sort j answer ≡ line_nodes (sort_at sort) (row_of row) (left_at s d) j
  unfolding line_nodes
  node-is h j = ap (λ (gs : List Group). cond (noted (sort_at sort)) (node j gs ∷ []) []) (groups-same row x y (number_in (get_or (left_at s d) 0 [])) (number_in (get_or (left_at s d) 1 [])) counted-so 3 row.below (plain h).counts)

  put_is : sort ≤ 7 → (xs ys : List Spot) → ys ≡ xs ++ cond (eqb row.flag 2) [] (found (mark_at mark) (row_of row).slots s d) → (ns : List Node)
      → trace (c.end + 1) ys (ns ++ line_node sort (length xs) answer) ≡ spot_line (sort_at sort) (mark_at mark) (row_of row) (field s c e d i here) (left_at s d) (trace c.at xs ns)
  unfolding spot_line line_spots
  put_is h xs ys g ns =
      let to : ys ≡ xs ++ cond (same (field s c e d i here) (bytes "service")) [] (spots_in (mark_at mark) (row_of row).slots 0 (c.at + length (field s c e d i here) + 1) (left_at s d)) =
      g ∙ ap₂ (λ (t : Bool) (v : ℕ). xs ++ cond t [] (spots_in (mark_at mark) (row_of row).slots 0 v (left_at s d))) (ap (λ (w : ℕ). eqb w 2) row-flag ∙ flag-stays (field s c e d i here)) (sym next-at) in
      λ i. trace (sym end-at i) (to i) (ns ++ node-is h (length xs) i)

  walk_is : sort ≤ 7 → (xs ys : List Spot) (ns : List Node) → trace (c.end + 1) ys (ns ++ line_node sort (length xs) answer) ≡ spot_line (sort_at sort) (mark_at mark) (row_of row) (field s c e d i here) (left_at s d) (trace c.at xs ns)
      → (trees : Sort → Mark → State Trace → State Trace) (ls : List Line)
      → beneath spot_line trees (eqb row.flag 1) (mark_at mark) (row_of row).below (x ∷ y ∷ []) (state ls (trace (c.end + 1) ys (ns ++ line_node sort (length xs) answer))) ≡ whole spot_line trees (sort_at sort) (mark_at mark) (split 9 (part c.at c.end s) ∷ ls) (trace c.at xs ns)
  walk_is h xs ys ns g trees ls =
      let w = field s c e d i here in
      let fs = left_at s d in
      beneath-same spot_line trees (eqb row.flag 1) (mark_at mark) row x y (number_in (get_or fs 0 [])) (number_in (get_or fs 1 [])) counted-so 3 row.below (plain h).counts (state ls (trace (c.end + 1) ys (ns ++ line_node sort (length xs) answer)))
      ∙ ap₂ (λ (u : Bool) (v : Trace). beneath spot_line trees u (mark_at mark) (row_of row).below (number_in (get_or fs 0 []) ∷ number_in (get_or fs 1 []) ∷ []) (state ls v)) (ap (λ (v : ℕ). eqb v 1) row-flag ∙ flag-hides w) g
      ∙ whole-line spot_line trees (eqb row.flag 1) (mark_at mark) w fs ls (trace c.at xs ns) (sort_at sort) (row_of row) (sym is ∙ ap row_found q)
      ∙ ap (λ (v : List Bytes). whole spot_line trees (sort_at sort) (mark_at mark) (v ∷ ls) (trace c.at xs ns)) (sym fields-are)

  -- a word of a line that is noted has two bytes at least
  word-long : noted (sort_at sort) ≡ true → c.at + 2 ≤ c.end
  word-long h = let l = long-word (sort_at sort) (field s c e d i here) (row_of row) h (sym is ∙ ap row_found q) in let u = end-at in omega (arith, l, u)

  -- a query's head
  head-row : sort ≡ 7 → Heads row x
  unfolding row_in flag_of same
  head-row h = go (same (field s c e d i here) (bytes "query")) refl (ap (λ (n : ℕ). row_for (sort_at n) (field s c e d i here)) (sym h) ∙ sym is ∙ ap row_found q)
    where
      head : Row
      head = a_row (text form ∷ text opaque ∷ text opaque ∷ []) (one of patterns ∷ [])

      zero-first : head ≡ row_of row → x ≡ 0
      zero-first g =
          let o = says.whole z in
          let t = line-slots (row_of row) width (left_at s d) o.0 o.1 in
          let u : take_slots (text form ∷ text opaque ∷ text opaque ∷ []) (left_at s d) ≡ some t.0 = ap (λ (r : Row). take_slots r.slots (left_at s d)) g ∙ t.1 in
          sym (ap (λ (v : List ℕ). get_or v 0 0) t.2 ∙ o.2) ∙ text-number form (text opaque ∷ text opaque ∷ []) (left_at s d) t.0 u

      go : (b : Bool) → same (field s c e d i here) (bytes "query") ≡ b → cond b (some head) none ≡ some (row_of row) → Heads row x
      go true w v =
          let g : head ≡ row_of row = cc in
          record {
            below = ap (λ (r : Row). r.below) (sym g);
            flag = row-flag ∙ ap flag_of (same-eq (field s c e d i here) (bytes "query") w);
            none = zero-first g;
          }
      go false w v = let y : ◌≡◌ {A = ℕ} 0 1 = cc in absurd (omega arith)

  pub line-sure : (words : List (List ℕ)) (level lines : ℕ) → number ≤ 56 → f ≡ codes.found (code_at words number) → lines < 2048 → (opens (sort_at sort) ≡ true → level ≡ 0 → ⊥) → Sure words c sort level lines answer
  line-sure words level lines few by late deep = record {
    first = says.small.0;
    second = says.small.1;
    tidy = subst (Tidy sort) q tidy;
    deep = deep;
    number = few;
    row = sym by ∙ q;
    few = late;
    long = word-long;
    head = head-row;
  }

  pub line-notes : sort ≤ 7 → LineNotes s a l n p j a' l' p' c sort mark (Ok answer)
  unfolding LineNotes
  line-notes h xs kp = go (eqb row.flag 2) refl
    where
      u1 : b.at ≡ c.end + 1
      u1 = z ∙ ap (λ (v : ℕ). v + 1) here.end

      kd : Keeps s (store a l n p j) d.at xs
      kd = keeps-at s (store a l n p j) c.at d.at xs (let u = here.first.low in let v = here.at in omega arith) (let u = here.first.high in let v = here.at in let w = i.ends in omega arith) kp

      step : (ys : List Spot) × (ys ++ found (mark_at mark) [] s b ≡ found (mark_at mark) (row_of row).slots s d) × Keeps s (store a' l' n' p' j') b.at (xs ++ ys)
      step = (adds z (plain h).tail).on room xs kd

      got : step.0 ≡ found (mark_at mark) (row_of row).slots s d
      got = sym (append-nil step.0) ∙ ap (λ (v : List Spot). step.0 ++ v) (sym (found-end (mark_at mark) [] s b (z ∙ ap (λ (v : ℕ). v + 1) (sym says.along.0)))) ∙ step.1

      kb : Keeps s (store a' l' n' p' j') (c.end + 1) (xs ++ step.0)
      kb = subst (λ (v : ℕ). Keeps s (store a' l' n' p' j') v (xs ++ step.0)) u1 step.2

      go : (t : Bool) → eqb row.flag 2 ≡ t
          → (ys : List Spot) × Keeps s (store a' l' n' p' r) (c.end + 1) ys
          × ((trees : Sort → Mark → State Trace → State Trace) (ls : List Line) (ns : List Node) → beneath spot_line trees (eqb row.flag 1) (mark_at mark) (row_of row).below (x ∷ y ∷ []) (state ls (trace (c.end + 1) ys (ns ++ line_node sort (length xs) answer))) ≡ whole spot_line trees (sort_at sort) (mark_at mark) (split 9 (part c.at c.end s) ∷ ls) (trace c.at xs ns))
      go true t = (xs, subst (λ (v : ℕ). Keeps s (store a' l' n' p' v) (c.end + 1) xs) (sym (counted ∙ rw t)) (keeps_cut s a l n p j a' l' n' p' j' c.at (c.end + 1) xs step.0 (omega arith) kp kb), λ trees ls ns. walk_is h xs xs ns (put_is h xs xs (sym (append-nil xs) ∙ rw t) ns) trees ls)
      go false t = (xs ++ step.0, subst (λ (v : ℕ). Keeps s (store a' l' n' p' v) (c.end + 1) (xs ++ step.0)) (sym (counted ∙ rw t)) kb, λ trees ls ns. walk_is h xs (xs ++ step.0) ns (put_is h xs (xs ++ step.0) (ap (λ (v : List Spot). xs ++ v) got ∙ rw t) ns) trees ls)

-- a line that is refused has no spots to tell
pub none-wrong : (s : Bytes) (a l : List ℕ) (n : ℕ) (p : List (List ℕ)) (k : ℕ) (a' l' : List ℕ) (p' : List (List ℕ)) (c : Cursor) (sort mark : ℕ) → LineNotes s a l n p k a' l' p' c sort mark (Err Malformed)
unfolding LineNotes
none-wrong s a l n p k a' l' p' c sort mark = tt

pub none_over : (s : Bytes) (a l : List ℕ) (n : ℕ) (p : List (List ℕ)) (k : ℕ) (a' l' : List ℕ) (p' : List (List ℕ)) (c : Cursor) (sort mark : ℕ) → LineNotes s a l n p k a' l' p' c sort mark (Err OverBound)
unfolding LineNotes
none_over s a l n p k a' l' p' c sort mark = tt
