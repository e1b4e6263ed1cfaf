-- Columns picked by a mask, one after the other. Assumes nothing.
use Prim.Native.Nat.{ℕ, ◌+◌, ◌-◌, ◌/◌, ◌%◌, ◌^◌, ◌≤◌, ◌<◌}
use mathlib.Core.Path.{◌≡◌, refl, sym, ap, ◌∙◌}
use mathlib.Core.List.{List, [], ◌∷◌, ◌++◌}
use mathlib.Core.Bool.{Bool, true, false, cond, not, ◌||◌, false≢true}
use native.Mathlib.Decide.{dec_le}
use native.Mathlib.Omega.{arith}
use lib.ListN.{length}
use lib.Dec.{eqb}
use lib.Pow.{shr-shr}
use borrow.Author.Tests.{not-true, not-false}
use Rattle.text.specs.Text.{Bytes, same}
use Rattle.emit.specs.declared.Writer.{Writer}
use Rattle.emit.specs.bridge.Writer.{Wrote}
use Rattle.emit.proofs.Writing.{wrote-none}
use Rattle.walking.proofs.Tabbed.{tabbed-append, put-tabbed}
use Rattle.walking.specs.bridge.Walk.{tabbed}
use Rattle.algebra.specs.Valid.{mem}
use Rattle.columns.specs.bridge.Columns.{picked}

-- ---- what is written of a column

pub column-none : {u : Writer} (f : Bytes) (b : Bool) → not b ≡ true → Wrote u u (tabbed (cond b (f ∷ []) []))
unfolding tabbed
column-none f b h = rw (not-true b h) wrote-none

pub column-put : {u v w : Writer} (f : Bytes) (b : Bool) → not b ≡ false → Wrote u v (9 ∷ []) → Wrote v w f → Wrote u w (tabbed (cond b (f ∷ []) []))
column-put f b h p q = rw (not-false b h) (put-tabbed p q)

-- ---- one after the other, by the bits of a mask from number i on

pub from_all : (v : ℕ) → v / 2 ^ 0 ≡ v
from_all v = let z : v / 1 ≡ v = omega arith in z

-- before the first turn
pub all-counted : (bit v n : ℕ) (gs : List Bytes) → n ≡ length (picked bit v gs) → n ≡ length (picked bit (v / 2 ^ 0) gs)
all-counted bit v n gs e = e ∙ ap (λ (m : ℕ). length (picked bit m gs)) (sym (from_all v))

pub all-put : (bit v : ℕ) (gs : List Bytes) → tabbed (picked bit v gs) ≡ tabbed (picked bit (v / 2 ^ 0) gs)
all-put bit v gs = ap (λ (m : ℕ). tabbed (picked bit m gs)) (sym (from_all v))

pub all_named : (v : ℕ) (gs : List Bytes) (f : Bytes) → mem f (picked 1 (v / 2 ^ 0) gs) ≡ mem f (picked 1 v gs)
all_named v gs f = ap (λ (m : ℕ). mem f (picked 1 m gs)) (from_all v)

half : (v i : ℕ) → v / 2 ^ i / 2 ≡ v / 2 ^ (i + 1)
half v i = shr-shr v i 1

module _ (bit v i : ℕ) (f : Bytes) (fs gs : List Bytes) (are : gs ≡ f ∷ fs) where
  abbrev rest : List Bytes
  rest = picked bit (v / 2 ^ (i + 1)) fs

  pub picked_next : picked bit (v / 2 ^ i) gs ≡ cond (eqb (v / 2 ^ i % 2) bit) (f ∷ picked bit (v / 2 ^ (i + 1)) fs) (picked bit (v / 2 ^ (i + 1)) fs)
  unfolding picked
  picked_next = ap (picked bit (v / 2 ^ i)) are ∙ ap (λ (n : ℕ). cond (eqb (v / 2 ^ i % 2) bit) (f ∷ picked bit n fs) (picked bit n fs)) (half v i)

  -- what is left before a turn and after it
  pub columns-next : (r : ℕ) (b : Bool) → r ≡ v / 2 ^ i % 2 → b ≡ eqb r bit → tabbed (picked bit (v / 2 ^ i) gs) ≡ tabbed (cond b (f ∷ []) []) ++ tabbed (picked bit (v / 2 ^ (i + 1)) fs)
  unfolding tabbed
  columns-next r b is p = ap tabbed picked_next ∙ ap (λ (t : Bool). tabbed (cond t (f ∷ rest) rest)) (sym (p ∙ ap (λ (n : ℕ). eqb n bit) is)) ∙ go b
    where
      go : (t : Bool) → tabbed (cond t (f ∷ rest) rest) ≡ tabbed (cond t (f ∷ []) []) ++ tabbed rest
      go true = tabbed-append (f ∷ []) rest
      go false = refl

  -- one less is left to be written
  pub columns-less : (r : ℕ) (b : Bool) (n m : ℕ) → r ≡ v / 2 ^ i % 2 → b ≡ eqb r bit → n ≡ length (picked bit (v / 2 ^ i) gs) → m ≡ cond b (n - 1) n → m ≡ length (picked bit (v / 2 ^ (i + 1)) fs)
  columns-less r b n m is p q e = e ∙ go b (q ∙ ap length picked_next ∙ ap (λ (t : Bool). length (cond t (f ∷ rest) rest)) (sym (p ∙ ap (λ (n : ℕ). eqb n bit) is)))
    where
      go : (t : Bool) → n ≡ length (cond t (f ∷ rest) rest) → cond t (n - 1) n ≡ length rest
      go true w = omega arith
      go false w = w

-- a name among the columns whose bit is 1
module _ (v i : ℕ) (f : Bytes) (fs gs : List Bytes) (are : gs ≡ f ∷ fs) (r : ℕ) (bit_is : r ≡ v / 2 ^ i % 2) (x : Bytes) (b : Bool) (is : b ≡ cond (eqb r 1) (same x f) false) where
  abbrev others : List Bytes
  others = picked 1 (v / 2 ^ (i + 1)) fs

  picks : picked 1 (v / 2 ^ i) gs ≡ cond (eqb r 1) (f ∷ others) others
  picks = picked_next 1 v i f fs gs are ∙ ap (λ (n : ℕ). cond (eqb n 1) (f ∷ others) others) (sym bit_is)

  pub marked-here : b ≡ true → true ≡ mem x (picked 1 (v / 2 ^ i) gs)
  unfolding mem
  marked-here q = go (eqb r 1) (sym is ∙ q) ∙ ap (mem x) (sym picks)
    where
      go : (t : Bool) → cond t (same x f) false ≡ true → true ≡ mem x (cond t (f ∷ others) others)
      go true w = ap (λ (z : Bool). z || mem x others) (sym w)
      go false w = absurd (false≢true w)

  pub marked_next : b ≡ false → mem x (picked 1 (v / 2 ^ (i + 1)) fs) ≡ mem x (picked 1 (v / 2 ^ i) gs)
  unfolding mem
  marked_next q = go (eqb r 1) (sym is ∙ q) ∙ ap (mem x) (sym picks)
    where
      go : (t : Bool) → cond t (same x f) false ≡ false → mem x others ≡ mem x (cond t (f ∷ others) others)
      go true w = ap (λ (z : Bool). z || mem x others) (sym w)
      go false w = refl

pub picked_none : (bit bits : ℕ) (gs : List Bytes) → gs ≡ [] → picked bit bits gs ≡ []
unfolding picked
picked_none bit bits gs e = ap (picked bit bits) e

-- there is a column where one is to be written
pub columns-more : (bit bits n : ℕ) (gs : List Bytes) (i c : ℕ) → (c ≤ i → gs ≡ []) → n ≡ length (picked bit bits gs) → 0 < n → i < c
columns-more bit bits n gs i c over e h = go (dec_le c i)
  where
    go : Dec (c ≤ i) → i < c
    go (yes l) = absurd (let z = ap length (picked_none bit bits gs (over l)) in omega arith)
    go (no l) = omega arith

pub nothing_left : (fs : List Bytes) (n : ℕ) → n ≡ length fs → n ≤ 0 → tabbed fs ≡ []
unfolding tabbed
nothing_left [] n p q = refl
nothing_left (f ∷ fs) n p q = absurd (omega arith)

-- ---- one column

pub unmarked : (m : Bool) (s : Bool) → not m ≡ true → false ≡ cond m s false
unmarked m s h = rw (not-true m h)

pub marked : (m : Bool) (s t : Bool) → not m ≡ false → t ≡ s → t ≡ cond m s false
marked m s t h e = rw (not-false m h) e

pub goes-constant : (m s : Bool) → m ≡ true → true ≡ (m || s)
goes-constant m s h = rw h

pub goes-joined : (m : Bool) (f g : Bytes) (js : List Bytes) (t : Bool) → m ≡ false → t ≡ mem f js → g ≡ f → t ≡ (m || mem g js)
goes-joined m f g js t h e q = rw h (e ∙ ap (λ (x : Bytes). mem x js) (sym q))
