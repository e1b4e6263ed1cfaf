-- Where a pattern ends: the row of a word whatever its sort, what is to come below a line, and the lines copied one by one. Assumes nothing.
use Prim.Native.Nat.{ℕ, zero, suc, ◌+◌, ◌-◌, ◌/◌, ◌%◌, ◌≤◌, ◌<◌}
use mathlib.Core.Path.{◌≡◌, refl, sym, ap, ap₂, subst, ◌∙◌}
use mathlib.Core.List.{List, [], ◌∷◌, ◌++◌, append_assoc}
use mathlib.Core.Option.{Option, none, some}
use native.Mathlib.Decide.{dec_lt}
use native.Mathlib.Omega.{arith}
use lib.ListN.{length, get_or}
use Rattle.text.specs.Text.{Bytes, Line, ended, text_of, split, part, lines_from}
use Rattle.text.proofs.Texts.{Ended, glue-split, ended-glue}
use Rattle.text.proofs.Places.{lines_next, lines-open, lines_end}
use Rattle.algebra.specs.bridge.Table.{Sort, Below, Row, always, given, more, table, row_in}
use Rattle.words.specs.declared.Row.{Row as Code}
use Rattle.words.specs.bridge.Code.{Found, sort_at, group_of, slots_in, groups_in, row_of, row_found, no_code}
use Rattle.cursor.specs.bridge.Cursor.{left, awaiting_many}
use Rattle.cursor.specs.declared.Cursor.{Cursor}
use Rattle.text.proofs.Parts.{part_join, part-line}
use Rattle.lines.specs.bridge.Below.{amount_in}
use Rattle.scoping.specs.bridge.Walk.{row_or, number_in}
use Rattle.reader.specs.bridge.Lines.{LineEnd}
use Rattle.filtering.specs.bridge.Copying.{plus, amounts, below, to_come, copying}
use Rattle.filtering.proofs.Copying.{plus-is}
use Rattle.placing.specs.bridge.Ends.{EndsAt}
use Rattle.std.specs.Prelude.{Some, None}

-- ---- the row of a word

module _ (o : Option Row) (t : Found) (e : row_found t ≡ o) where
  pub row_is : (c : Code) → t ≡ Some c → row_of c ≡ row_or o
  row_is c i = ap row_or (sym (ap row_found i) ∙ e)

  pub row-none : t ≡ None → row_of no_code ≡ row_or o
  unfolding slots_in groups_in
  row-none i = ap row_or (sym (ap row_found i) ∙ e)

-- ---- what is to come below a line

amounts-cons : (b : Below) (bs : List Below) (ns : List ℕ) → amounts (b ∷ bs) ns ≡ amounts (b ∷ []) ns + amounts bs ns
unfolding amounts
amounts-cons b [] ns = omega arith
amounts-cons b (c ∷ bs) ns = plus-is _ _

-- a group in front of others
group-amount : (n k : ℕ) (s : Sort) (a b : ℕ) (bs : List Below) → amounts (group_of n k s ++ bs) (a ∷ b ∷ []) ≡ amount_in n k a b + amounts bs (a ∷ b ∷ [])
unfolding amounts
group-amount zero zero s a b bs = omega arith
group-amount (suc n) zero s a b bs = amounts-cons (record { amount = always (suc n); sort = s }) bs (a ∷ b ∷ [])
group-amount n (suc zero) s a b bs = amounts-cons (record { amount = given 0; sort = s }) bs (a ∷ b ∷ [])
group-amount n (suc (suc zero)) s a b bs = amounts-cons (record { amount = given 1; sort = s }) bs (a ∷ b ∷ [])
group-amount n (suc (suc (suc zero))) s a b bs = amounts-cons (record { amount = more 0 n; sort = s }) bs (a ∷ b ∷ [])
group-amount n (suc (suc (suc (suc zero)))) s a b bs = amounts-cons (record { amount = more 1 n; sort = s }) bs (a ∷ b ∷ [])
group-amount n (suc (suc (suc (suc (suc k))))) s a b bs = omega arith

groups-amount : (k n a b : ℕ) → amounts (groups_in (suc k) n) (a ∷ b ∷ []) ≡ amount_in (n % 4) (n / 4 % 8) a b + amounts (groups_in k (n / 512)) (a ∷ b ∷ [])
unfolding groups_in
groups-amount k n a b = group-amount (n % 4) (n / 4 % 8) (sort_at (n / 32 % 16)) a b (groups_in k (n / 512))

no-groups : (n a b : ℕ) → amounts (groups_in 0 n) (a ∷ b ∷ []) ≡ 0
unfolding groups_in amounts
no-groups n a b = refl

row-amount : (n a b : ℕ) → amounts (groups_in 3 n) (a ∷ b ∷ []) ≡ amount_in (n % 4) (n / 4 % 8) a b + amount_in (n / 512 % 4) (n / 512 / 4 % 8) a b + amount_in (n / 512 / 512 % 4) (n / 512 / 512 / 4 % 8) a b
row-amount n a b =
    let x = groups-amount 2 n a b in
    let y = groups-amount 1 (n / 512) a b in
    let z = groups-amount 0 (n / 512 / 512) a b in
    let e = no-groups (n / 512 / 512 / 512) a b in
    omega (arith, x, y, z, e)

below_row : (o : Option Row) → below o ≡ (row_or o).below
below_row none = refl
below_row (some r) = refl

-- the lines that a row asks for, one group and then the next
pub asked_is : (n a b x y z : ℕ) (s : Bytes) (first end : ℕ) → a ≡ number_in (get_or (left s first end) 0 []) → b ≡ number_in (get_or (left s first end) 1 [])
    → x ≡ amount_in (n % 4) (n / 4 % 8) a b → y ≡ amount_in (n / 512 % 4) (n / 512 / 4 % 8) a b → z ≡ amount_in (n / 512 / 512 % 4) (n / 512 / 512 / 4 % 8) a b
    → x + y + z ≡ amounts (groups_in 3 n) (number_in (get_or (left s first end) 0 []) ∷ number_in (get_or (left s first end) 1 []) ∷ [])
asked_is n a b x y z s first end p q i j k = ap₂ ◌+◌ (ap₂ ◌+◌ i j) k ∙ sym (row-amount n a b) ∙ ap₂ (λ (l m : ℕ). amounts (groups_in 3 n) (l ∷ m ∷ [])) p q

pub asked-none : (n : ℕ) (ns : List ℕ) → n ≡ 0 → 0 ≡ amounts (groups_in 3 n) ns
unfolding groups_in amounts
asked-none n ns h = rw h

-- those that its line asks for
pub come-is : (f : Bytes) (fs : List Bytes) (c : Code) → row_of c ≡ row_or (row_in table f) → (r : ℕ) → r ≡ amounts (groups_in 3 c.below) (number_in (get_or fs 0 []) ∷ number_in (get_or fs 1 []) ∷ []) → r ≡ to_come (f ∷ fs)
unfolding to_come
come-is f fs c o r e = e ∙ ap (λ (g : List Below). amounts g (number_in (get_or fs 0 []) ∷ number_in (get_or fs 1 []) ∷ [])) (ap (λ (x : Row). x.below) o ∙ sym (below_row (row_in table f)))

-- a group is small if the row and the numbers are
pub amount-fits : (n a b r : ℕ) → r ≡ amount_in (n % 4) (n / 4 % 8) a b → a < 4294967296 → b < 4294967296 → r ≤ 4294967298
amount-fits n a b r e i j = go (n % 4) (n / 4 % 8) (omega arith) e
  where
    go : (m k : ℕ) → m ≤ 3 → r ≡ amount_in m k a b → r ≤ 4294967298
    go m zero h e = omega arith
    go m (suc zero) h e = omega arith
    go m (suc (suc zero)) h e = omega arith
    go m (suc (suc (suc zero))) h e = omega arith
    go m (suc (suc (suc (suc zero)))) h e = omega arith
    go m (suc (suc (suc (suc (suc k))))) h e = omega arith

-- ---- line by line

-- so much is to come at a place, and the lines from the start down to it were copied
abbrev pub Going : Bytes → ℕ → ℕ → ℕ → Type 0
Going s from at k = Ended (lines_from s from) → Ended (lines_from s at) × ((v : List Line) → text_of (copying (lines_from s from) 1 v) ≡ part from at s ++ text_of (copying (lines_from s at) k v))

pub going_start : (s : Bytes) (from : ℕ) → Going s from from 1
going_start s from n = (n, λ v. let z : from - from ≡ 0 = omega arith in rw z)

line-text : (p r : Bytes) → ended (split 9 p) r ≡ p ++ (10 ∷ r)
line-text p r = ended-glue (split 9 p) r ∙ ap (λ (x : Bytes). x ++ (10 ∷ r)) (glue-split 9 p)

pub behind-line : (l : Line) (ls : List Line) → Ended (l ∷ ls) → Ended ls
behind-line [] ls e = absurd e
behind-line (f ∷ fs) ls e = e

pub none-copied : (t u : List Line) → copying t 0 u ≡ u
unfolding copying
none-copied [] u = refl
none-copied (l ∷ ls) u = refl

-- nothing is to come
pub going_done : (s : Bytes) (from at k : ℕ) → from ≤ at → at ≤ length s → Going s from at k → k ≤ 0 → EndsAt s from at
going_done s from at k low high g h = record {
  low = low;
  high = high;
  copied = λ n v. let z : k ≡ 0 = omega arith in (g n).1 v ∙ ap (λ (m : ℕ). part from at s ++ text_of (copying (lines_from s at) m v)) z ∙ ap (λ (ls : List Line). part from at s ++ text_of ls) (none-copied (lines_from s at) v);
}

module _ (s : Bytes) (from at end k : ℕ) (low : from ≤ at) (high : at ≤ length s) (g : Going s from at k) (l : LineEnd s at end) where
  -- no line is left: there is none that isn't ended
  pub going-stop : end ≡ length s → EndsAt s from end
  unfolding copying
  going-stop e = record { low = omega arith; high = l.high; copied = λ n v. go n v (dec_lt at (length s)) }
    where
      go : Ended (lines_from s from) → (v : List Line) → Dec (at < length s) → text_of (copying (lines_from s from) 1 v) ≡ part from end s ++ text_of v
      go n v (yes h) = absurd (subst Ended (lines-open s at end h (l.none e (let x : length s ≤ at → ⊥ = omega arith in x)) e) (g n).0)
      go n v (no h) =
          let q : at ≡ end = omega arith in
          (g n).1 v ∙ ap (λ (m : ℕ). part from m s ++ text_of (copying (lines_from s at) k v)) q ∙ ap (λ (ls : List Line). part from end s ++ text_of (copying ls k v)) (lines_end s at (omega arith))

  module _ (more : 0 < k) (ends : end ≡ length s → ⊥) where
    inside : end < length s
    inside = let h = l.high in omega arith

    pub going-low : at ≤ end
    going-low = (l.ends inside).low

    copied-line : (b : ℕ) → b ≡ to_come (split 9 (part at end s)) → (v : List Line) → copying (lines_from s at) k v ≡ split 9 (part at end s) ∷ copying (lines_from s (end + 1)) (k - 1 + b) v
    unfolding copying
    copied-line b c v =
        let j : k ≡ suc (k - 1) = omega arith in
        let p = plus-is (to_come (split 9 (part at end s))) (k - 1) in
        let q : plus (to_come (split 9 (part at end s))) (k - 1) ≡ k - 1 + b = omega arith in
        ap₂ (λ (ls : List Line) (m : ℕ). copying ls m v) (lines_next s at end (l.ends inside) inside) j
        ∙ ap (λ (m : ℕ). split 9 (part at end s) ∷ copying (lines_from s (end + 1)) m v) q

    joined : (t : Bytes) → part from at s ++ (part at end s ++ (10 ∷ t)) ≡ part from (end + 1) s ++ t
    joined t =
        let k = going-low in
        sym (append_assoc (part from at s) (part at end s) (10 ∷ t))
        ∙ ap (λ (x : Bytes). x ++ (10 ∷ t)) (part_join s from at end low k)
        ∙ sym (append_assoc (part from end s) (10 ∷ []) t)
        ∙ ap (λ (x : Bytes). x ++ t) (part-line s from end (omega arith) inside ((l.ends inside).here inside))

    pub going_next : (b : ℕ) → b ≡ to_come (split 9 (part at end s)) → Going s from (end + 1) (k - 1 + b)
    unfolding text_of
    going_next b c n = (
      behind-line (split 9 (part at end s)) (lines_from s (end + 1)) (subst Ended (lines_next s at end (l.ends inside) inside) (g n).0),
      λ v.
          (g n).1 v
          ∙ ap (λ (ls : List Line). part from at s ++ text_of ls) (copied-line b c v)
          ∙ ap (λ (x : Bytes). part from at s ++ x) (line-text (part at end s) (text_of (copying (lines_from s (end + 1)) (k - 1 + b) v)))
          ∙ joined (text_of (copying (lines_from s (end + 1)) (k - 1 + b) v)),
    )

    -- the cursor behind the line
    pub going-child : (b : ℕ) → b ≡ to_come (split 9 (part at end s)) → (done c : Cursor) → done.at ≡ end + 1 → c ≡ awaiting_many done (k - 1 + b) → Going s from c.at c.awaited
    going-child b h done c e n =
        subst (λ (d : Cursor). Going s from d.at d.awaited) (sym n)
        (subst (λ (m : ℕ). Going s from m (k - 1 + b)) (sym e)
        (going_next b h))
