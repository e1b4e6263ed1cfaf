-- The positions of a list of pairs, read line by line. Assumes nothing.
use Prim.Native.Nat.{ℕ, zero, suc, ◌+◌, ◌-◌, ◌≤◌, ◌<◌}
use mathlib.Core.Path.{◌≡◌, refl, sym, ap, ap₂, subst, ◌∙◌}
use mathlib.Core.List.{List, [], ◌∷◌, ◌++◌}
use mathlib.Core.Bool.{Bool, true, false, cond, not, ◌&&◌}
use mathlib.Core.Logic.{⊎_elim}
use native.Mathlib.Nat.{eq-or-lt_of_le}
use native.Mathlib.Omega.{arith}
use native.Mathlib.Numerals.{add-one}
use native.Mathlib.Decide.{dec_lt}
use lib.ListN.{length, get_or, take, drop, set, replicate, length-map}
use lib.Seq.{take-suc-set, get_or-set_same, get_or-set_other}
use lib.Dec.{ltb}
use borrow.Author.Tests.{lt-ltb, le-ltb, ltb-true, ne_eqb, not-true, not-false}
use Rattle.text.proofs.Basics.{and_left, and_right}
use Rattle.text.specs.Text.{Bytes, Line, split, part, lines_from, First}
use Rattle.text.proofs.Places.{lines_start, lines_end, lines-open, lines_next}
use Rattle.text.proofs.Texts.{glue, glue-split}
use Rattle.cursor.specs.bridge.Cursor.{left}
use Rattle.cursor.proofs.Laws.{left-none, left-next, left-all}
use Rattle.emit.specs.declared.Writer.{Writer}
use Rattle.emit.specs.bridge.Writer.{Wrote}
use Rattle.emit.proofs.Writing.{wrote-as, wrote-none}
use Rattle.algebra.specs.Query.{Pair}
use Rattle.algebra.specs.Layout.{put_pairs}
use Rattle.algebra.specs.Tally.{bounds}
use Rattle.scoping.specs.Sets.{all}
use Rattle.merging.specs.Request.{position}
use Rattle.merging.specs.Names.{place_in}
use Rattle.scoping.specs.bridge.Walk.{number_in}
use Rattle.walking.specs.bridge.Walk.{tabbed}
use Rattle.reader.specs.bridge.Lines.{LineEnd}
use Rattle.columns.specs.bridge.Listed.{Positions, Listed, positions_in, Kept, Found, Ordered, second_of, terms_from}
use Rattle.walking.proofs.Tabbed.{tabbed-append, put-tabbed}
use Rattle.std.specs.Prelude.{Some, None}

-- ---- pairs as lines

-- a line of two fields, no open line
no-open : (xs : List Pair) → put_pairs xs [] ≡ [] ∷ [] → ⊥
unfolding put_pairs
no-open [] e = let z : ◌≡◌ {A = ℕ} 0 1 = cc in omega arith
no-open (x ∷ xs) e = let z : ◌≡◌ {A = ℕ} 0 1 = cc in omega arith

pairs-none : (xs : List Pair) → [] ≡ put_pairs xs [] → xs ≡ []
unfolding put_pairs
pairs-none [] e = refl
pairs-none (x ∷ xs) e = absurd (let z : ◌≡◌ {A = ℕ} 0 1 = cc in omega arith)

-- the first pair of some
pub record Head (xs : List Pair) (l : Line) (ls : List Line) : Type 0 where
  pub first : Pair
  pub others : List Pair
  pub are : xs ≡ first ∷ others
  pub line : l ≡ first.first ∷ first.second ∷ []
  pub rest : ls ≡ put_pairs others []

pairs-head : (xs : List Pair) (l : Line) (ls : List Line) → l ∷ ls ≡ put_pairs xs [] → Head xs l ls
unfolding put_pairs
pairs-head [] l ls e = absurd (let z : ◌≡◌ {A = ℕ} 0 1 = cc in omega arith)
pairs-head (x ∷ xs) l ls e = record { first = x; others = xs; are = refl; line = cc; rest = cc }

drop-next : {A : Type 0} (xs ys : List A) (x : A) (m : ℕ) → drop m xs ≡ x ∷ ys → drop (m + 1) xs ≡ ys
drop-next [] ys x zero e = absurd (let z : ◌≡◌ {A = ℕ} 0 1 = cc in omega arith)
drop-next [] ys x (suc m) e = absurd (let z : ◌≡◌ {A = ℕ} 0 1 = cc in omega arith)
drop-next (w ∷ xs) ys x zero e = cc
drop-next (w ∷ xs) ys x (suc m) e = let z : suc m + 1 ≡ suc (m + 1) = omega arith in ap (λ (n : ℕ). drop n (w ∷ xs)) z ∙ drop-next xs ys x m e

drop-low : {A : Type 0} (xs ys : List A) (x : A) (m : ℕ) → drop m xs ≡ x ∷ ys → m < length xs
drop-low [] ys x zero e = absurd (let z : ◌≡◌ {A = ℕ} 0 1 = cc in omega arith)
drop-low [] ys x (suc m) e = absurd (let z : ◌≡◌ {A = ℕ} 0 1 = cc in omega arith)
drop-low (w ∷ xs) ys x zero e = omega arith
drop-low (w ∷ xs) ys x (suc m) e = let h = drop-low xs ys x m e in omega arith

pub drop_all : {A : Type 0} (xs : List A) (k : ℕ) → length xs ≤ k → drop k xs ≡ []
drop_all [] zero h = refl
drop_all [] (suc k) h = refl
drop_all (x ∷ xs) zero h = absurd (omega arith)
drop_all (x ∷ xs) (suc k) h = drop_all xs k (omega arith)

drop-whole : {A : Type 0} (xs : List A) (m : ℕ) → drop m xs ≡ [] → length xs ≤ m
drop-whole [] m e = omega arith
drop-whole (x ∷ xs) zero e = absurd (let z : ◌≡◌ {A = ℕ} 0 1 = cc in omega arith)
drop-whole (x ∷ xs) (suc m) e = let h = drop-whole xs m e in omega arith

-- ---- the field that holds the position

pub first-position : (s : Bytes) (at end n : ℕ) (second : Bool) → not second ≡ true → n ≡ number_in (get_or (left s at end) 0 []) → n ≡ number_in (get_or (left s at end) (cond second 1 0) [])
first-position s at end n second h e = rw (not-true second h) e

pub second-position : (s : Bytes) (at end n : ℕ) (second : Bool) → not second ≡ false → n ≡ number_in (get_or (left s at end) 1 []) → n ≡ number_in (get_or (left s at end) (cond second 1 0) [])
second-position s at end n second h e = rw (not-false second h) e

-- ---- while they are read

abbrev in_c : ℕ → List ℕ → Bool
in_c c is = all (λ i. ltb i c) is

-- the first m pairs were read, up to a place
pub record Going (s : Bytes) (xs : List Pair) (second : Bool) (c : ℕ) (at lines : List ℕ) (m from : ℕ) : Type 0 where
  pub low : m ≤ length xs
  pub rest : lines_from s from ≡ put_pairs (drop m xs) []
  pub positions : take m at ++ positions_in second (drop m xs) ≡ positions_in second xs
  pub places : (k : ℕ) → k < m → lines_from s (get_or lines k 0) ≡ put_pairs (drop k xs) []
  pub inside : all (λ i. ltb i c) (positions_in second (drop m xs)) ≡ all (λ i. ltb i c) (positions_in second xs)

pub going_start : (s : Bytes) (xs : List Pair) (second : Bool) (c : ℕ) (at lines : List ℕ) → Listed s xs → Going s xs second c at lines 0 0
going_start s xs second c at lines l = record { low = omega arith; rest = sym (lines_start s) ∙ l.lines; positions = refl; places = λ k h. absurd (omega arith); inside = refl }

module _ (s : Bytes) (xs : List Pair) (second : Bool) (c : ℕ) (at lines : List ℕ) (m from : ℕ) (g : Going s xs second c at lines m from) where
  -- no list of pairs ends in an open line
  pub going-open : (e : ℕ) (r : Positions) → from < length s → LineEnd s from e → e ≡ length s → Found s xs second c at lines r
  going-open e r h l q = absurd (no-open (drop m xs) (sym g.rest ∙ lines-open s from e h (l.none q (let n : length s ≤ from → ⊥ = omega arith in n)) q))

  module _ (e : ℕ) (l : LineEnd s from e) (low : e ≡ length s → ⊥) where
    ended : e < length s
    ended = let h = l.high in omega arith

    pub here : Head (drop m xs) (split 9 (part from e s)) (lines_from s (e + 1))
    here = pairs-head (drop m xs) (split 9 (part from e s)) (lines_from s (e + 1)) (sym (lines_next s from e (l.ends ended) ended) ∙ g.rest)

    start-low : from ≤ e
    start-low = (l.ends ended).low

    pub going-low : m < length xs
    going-low = drop-low xs here.others here.first m here.are

    -- the position that was read
    pub read-position : (p : ℕ) → p ≡ number_in (get_or (left s from e) (cond second 1 0) []) → p ≡ position (cond second here.first.second here.first.first)
    unfolding position
    read-position p q = q ∙ ap (λ (k : Line). number_in (get_or k (cond second 1 0) [])) (left-all s from e start-low ∙ here.line) ∙ go second
      where
        go : (t : Bool) → number_in (get_or (here.first.first ∷ here.first.second ∷ []) (cond t 1 0) []) ≡ number_in (cond t here.first.second here.first.first)
        go true = refl
        go false = refl

    left-inside : (p : ℕ) → p ≡ position (cond second here.first.second here.first.first) → all (λ i. ltb i c) (positions_in second xs) ≡ (ltb p c && all (λ i. ltb i c) (positions_in second here.others))
    unfolding all
    left-inside p q = sym g.inside ∙ ap (λ (ys : List Pair). all (λ i. ltb i c) (positions_in second ys)) here.are ∙ ap (λ (n : ℕ). ltb n c && all (λ i. ltb i c) (positions_in second here.others)) (sym q)

    pub going-outside : (p : ℕ) → p ≡ number_in (get_or (left s from e) (cond second 1 0) []) → c ≤ p → Found s xs second c at lines None
    unfolding Found
    going-outside p q h = left-inside p (read-position p q) ∙ ap (λ (b : Bool). b && all (λ i. ltb i c) (positions_in second here.others)) (le-ltb p c h)

    pub going_next : (p : ℕ) → p ≡ number_in (get_or (left s from e) (cond second 1 0) []) → p < c → m < length at → m < length lines
        → Going s xs second c (set at m p) (set lines m from) (m + 1) (e + 1)
    unfolding all
    going_next p q h i j =
        let d : drop (m + 1) xs ≡ here.others = drop-next xs here.others here.first m here.are in
        let w = read-position p q in
        let n = going-low in
        record {
          low = omega arith;
          rest = here.rest ∙ ap (λ (ys : List Pair). put_pairs ys []) (sym d);
          positions =
              ap₂ (λ (k : ℕ) (ys : List Pair). take k (set at m p) ++ positions_in second ys) (add-one m) d
              ∙ ap (λ (l : List ℕ). l ++ positions_in second here.others) (take-suc-set at m p i)
              ∙ regroup (take m at) p (positions_in second here.others)
              ∙ ap (λ (k : ℕ). take m at ++ (k ∷ positions_in second here.others)) w
              ∙ ap (λ (ys : List Pair). take m at ++ positions_in second ys) (sym here.are)
              ∙ g.positions;
          places = λ k z. ⊎_elim
              (λ (u : k ≡ m). rw u (ap (lines_from s) (get_or-set_same lines m from 0 j) ∙ g.rest))
              (λ (u : k < m). let v : k ≡ m → ⊥ = omega arith in ap (lines_from s) (get_or-set_other lines m k from 0 v) ∙ g.places k u)
              (eq-or-lt_of_le (omega arith));
          inside =
              ap (λ (ys : List Pair). all (λ i. ltb i c) (positions_in second ys)) d
              ∙ ap (λ (b : Bool). b && all (λ i. ltb i c) (positions_in second here.others)) (sym (lt-ltb p c h))
              ∙ sym (left-inside p w);
        }
      where
        regroup : (a : List ℕ) (x : ℕ) (b : List ℕ) → (a ++ (x ∷ [])) ++ b ≡ a ++ (x ∷ b)
        regroup [] x b = refl
        regroup (y ∷ a) x b = ap (λ (l : List ℕ). y ∷ l) (regroup a x b)

  pub going_done : length s ≤ from → Found s xs second c at lines (Some m)
  unfolding Found all
  going_done h =
      let e : drop m xs ≡ [] = pairs-none (drop m xs) (sym (lines_end s from h) ∙ g.rest) in
      let k : length xs ≤ m = drop-whole xs m e in
      let i = g.low in (
        sym g.inside ∙ ap (λ (ys : List Pair). all (λ i. ltb i c) (positions_in second ys)) e,
        record {
          many = omega arith;
          positions = sym (append-none (take m at)) ∙ ap (λ (ys : List Pair). take m at ++ positions_in second ys) (sym e) ∙ g.positions;
          places = g.places;
        },
      )
    where
      append-none : (a : List ℕ) → a ++ [] ≡ a
      append-none [] = refl
      append-none (x ∷ a) = ap (λ (l : List ℕ). x ∷ l) (append-none a)

-- ---- the second field

module _ (s : Bytes) (from e : ℕ) (l : LineEnd s from e) where
  pub second-open : (f g : Bytes) (ls : List Line) (r : Bytes) → e ≡ length s → lines_from s from ≡ (f ∷ g ∷ []) ∷ ls → r ≡ g
  second-open f g ls r q h = go (dec_lt from (length s))
    where
      go : Dec (from < length s) → r ≡ g
      go (yes k) = let o = lines-open s from e k (l.none q (let n : length s ≤ from → ⊥ = omega arith in n)) q in absurd (let z : ◌≡◌ {A = ℕ} 0 1 = cc in omega arith)
      go (no k) = let o = lines_end s from (omega arith) in absurd (let z : ◌≡◌ {A = ℕ} 0 1 = cc in omega arith)

  module _ (low : e ≡ length s → ⊥) where
    ends_low : e < length s
    ends_low = let h = l.high in omega arith

    pub field-low : from ≤ e
    field-low = (l.ends ends_low).low

    module _ (f g : Bytes) (ls : List Line) (h : lines_from s from ≡ (f ∷ g ∷ []) ∷ ls) (tab : ℕ) (t : First 9 s from e tab) where
      fields : part from tab s ∷ left s (tab + 1) e ≡ f ∷ g ∷ []
      fields =
          sym (left-next s from e tab (omega (arith, ends_low)) field-low t) ∙ left-all s from e field-low
          ∙ (let z : split 9 (part from e s) ∷ lines_from s (e + 1) ≡ (f ∷ g ∷ []) ∷ ls = sym (lines_next s from e (l.ends ends_low) ends_low) ∙ h in let y : split 9 (part from e s) ≡ f ∷ g ∷ [] = cc in y)

      pub second_none : (r : Bytes) → tab ≡ e → r ≡ g
      second_none r q = let n = left-none s (tab + 1) e (omega arith) in let f = fields in absurd (let z : ◌≡◌ {A = ℕ} 0 1 = cc in omega arith)

      pub second_is : (tab ≡ e → ⊥) → part (tab + 1) e s ≡ g
      second_is q = let hi = t.high in one_field (part (tab + 1) e s) (sym (left-all s (tab + 1) e (omega arith)) ∙ rest)
        where
          rest : left s (tab + 1) e ≡ g ∷ []
          rest = let f = fields in cc

          one_field : (b : Bytes) → split 9 b ≡ g ∷ [] → b ≡ g
          one_field b e = sym (glue-split 9 b) ∙ ap (glue 9) e

-- ---- the terms that are written

module _ (s : Bytes) (xs : List Pair) (second : Bool) (at lines : List ℕ) (m k : ℕ) (kept : Kept s xs second at lines m) where
  pub term-none : {u : Writer} → m ≤ k → Wrote u u (tabbed (second_of (drop k xs)))
  unfolding tabbed
  term-none h = let e = kept.many in rw (drop_all xs k (omega arith)) wrote-none

  pub term-put : {u v w : Writer} (from : ℕ) (r : Bytes) → k < m → from ≡ get_or lines k 0 → ((f g : Bytes) (ls : List Line) → lines_from s from ≡ (f ∷ g ∷ []) ∷ ls → r ≡ g)
      → Wrote u v (9 ∷ []) → Wrote v w r → Wrote u w (tabbed (second_of (drop k xs)))
  unfolding put_pairs
  term-put {u} {v} {w} from r h q f p e =
      let i = kept.many in
      go (drop k xs) refl (ap (lines_from s) q ∙ kept.places k h)
    where
      go : (ys : List Pair) → drop k xs ≡ ys → lines_from s from ≡ put_pairs ys [] → Wrote u w (tabbed (second_of ys))
      go [] t z = absurd (let v = drop-whole xs k t in let i = kept.many in omega arith)
      go (y ∷ ys) t z = put-tabbed p (wrote-as (f y.first y.second (put_pairs ys []) z) e)

-- positions below a number of columns are below the bound too
pub below_more : (is : List ℕ) (c : ℕ) → c ≤ bounds.columns → all (λ i. ltb i c) is ≡ true → all (λ i. ltb i bounds.entries) is ≡ true
unfolding all
below_more [] c h a = refl
below_more (i ∷ is) c h a =
    let l = ltb-true i c (and_left (ltb i c) (all (λ i. ltb i c) is) a) in
    let r = below_more is c h (and_right (ltb i c) (all (λ i. ltb i c) is) a) in
    ap (λ (b : Bool). b && all (λ i. ltb i bounds.entries) is) (lt-ltb i bounds.entries (omega arith)) ∙ r

pub all_of : (is js : List ℕ) (c : ℕ) → is ≡ js → all (λ i. ltb i c) is ≡ true → all (λ i. ltb i c) js ≡ true
all_of is js c e a = subst (λ (l : List ℕ). all (λ i. ltb i c) l ≡ true) e a

-- no place was noted yet
pub order-blank : (m n : ℕ) → m ≤ n → (p : ℕ) → p < n → m ≤ get_or (replicate n n) p 0
order-blank m n h p l = go n p l
  where
    go : (k i : ℕ) → i < k → m ≤ get_or (replicate k n) i 0
    go zero i l = absurd (omega arith)
    go (suc k) zero l = h
    go (suc k) (suc i) l = go k i (omega arith)

-- a position that is listed, by the places that were noted
pub term-at : (xs : List Pair) (ps order : List ℕ) (i : ℕ) → i < bounds.entries → length xs ≡ length ps → Ordered ps order → second_of (drop (get_or order i 0) xs) ≡ second_of (drop (place_in i ps) xs)
term-at xs ps order i l e o = go (dec_lt (place_in i ps) (length ps))
  where
    go : Dec (place_in i ps < length ps) → second_of (drop (get_or order i 0) xs) ≡ second_of (drop (place_in i ps) xs)
    go (yes h) = ap (λ (n : ℕ). second_of (drop n xs)) (o.there i l h)
    go (no h) =
        let a = o.else i l (omega arith) in
        ap second_of (drop_all xs (get_or order i 0) (omega arith) ∙ sym (drop_all xs (place_in i ps) (omega arith)))

pub terms-next : (xs : List Pair) (i r : ℕ) (ps order : List ℕ) → i < bounds.columns → r ≡ get_or order i 0 → Ordered ps order → ps ≡ positions_in false xs
    → tabbed (terms_from xs i (bounds.columns - i)) ≡ tabbed (second_of (drop r xs)) ++ tabbed (terms_from xs (i + 1) (bounds.columns - (i + 1)))
unfolding terms_from
terms-next xs i r ps order h e o q =
    let n : bounds.columns - i ≡ suc (bounds.columns - (i + 1)) = omega arith in
    let l : length xs ≡ length ps = sym (ap length q ∙ length-map xs (λ (x : Pair). position x.first)) in
    let w : second_of (drop r xs) ≡ second_of (drop (place_in i (positions_in false xs)) xs) = ap (λ (m : ℕ). second_of (drop m xs)) e ∙ term-at xs ps order i h l o ∙ ap (λ (y : List ℕ). second_of (drop (place_in i y) xs)) q in
    ap (λ (a : ℕ). tabbed (terms_from xs i a)) n
    ∙ ap₂ (λ (a : List Bytes) (b : ℕ). tabbed (a ++ terms_from xs b (bounds.columns - (i + 1)))) (sym w) (sym (add-one i))
    ∙ tabbed-append (second_of (drop r xs)) (terms_from xs (i + 1) (bounds.columns - (i + 1)))

-- a position from c on isn't listed where all are below c
place-beyond : (c i : ℕ) (ps : List ℕ) → c ≤ i → all (λ p. ltb p c) ps ≡ true → length ps ≤ place_in i ps
unfolding place_in all
place-beyond c i [] h a = omega arith
place-beyond c i (p ∷ ps) h a =
    let l = ltb-true p c (and_left (ltb p c) (all (λ p. ltb p c) ps) a) in
    let z = place-beyond c i ps h (and_right (ltb p c) (all (λ p. ltb p c) ps) a) in
    rw (ne_eqb i p (λ e. omega arith)) (omega arith)

terms-beyond : (xs : List Pair) (c i n : ℕ) → c ≤ i → all (λ p. ltb p c) (positions_in false xs) ≡ true → terms_from xs i n ≡ []
unfolding terms_from
terms-beyond xs c i zero h a = refl
terms-beyond xs c i (suc n) h a =
    let z = place-beyond c i (positions_in false xs) h a in
    let l : length (positions_in false xs) ≡ length xs = length-map xs (λ (x : Pair). position x.first) in
    ap₂ (λ (ys : List Pair) (ts : List Bytes). second_of ys ++ ts) (drop_all xs (place_in i (positions_in false xs)) (omega arith)) (terms-beyond xs c (suc i) n (omega arith) a)

pub terms-done : (xs : List Pair) (c i : ℕ) → c ≤ i → all (λ p. ltb p c) (positions_in false xs) ≡ true → tabbed (terms_from xs i (bounds.columns - i)) ≡ []
unfolding tabbed
terms-done xs c i h a = ap tabbed (terms-beyond xs c i (bounds.columns - i) h a)
