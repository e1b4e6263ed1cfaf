-- A key of eight bytes at most, of which the first is not 0, tells its bytes; what key a field has. Assumes nothing.
use Prim.Native.Nat.{ℕ, zero, suc, ◌+◌, ◌-◌, ◌*◌, ◌%◌, ◌/◌, ◌≤◌, ◌<◌}
use mathlib.Core.Path.{◌≡◌, refl, sym, ◌∙◌, ap, ap₂, subst}
use mathlib.Core.Bool.{Bool, true, false, false≢true}
use mathlib.Core.List.{List, [], ◌∷◌, ◌++◌}
use native.Mathlib.Omega.{arith}
use lib.Dec.{eqb, leb, lit≤}
use lib.ListN.{length, get_or, take, drop, length-take, length-drop, replicate}
use lib.Seq.{take-suc, get_or-take, get_or-drop}
use borrow.Author.Tests.{leb-true, leb-false, eq-eqb, ne_eqb}
use Rattle.text.specs.Text.{Bytes, same, part}
use Rattle.text.proofs.Basics.{same-eq, same_refl}
use Rattle.text.proofs.Lists.{same-long}
use Rattle.words.specs.declared.Word.{Word}
use Rattle.words.specs.bridge.Key.{key_of, Small, Spells, Told, Keyed}

-- ---- how the code makes a key

-- no byte yet
pub spells-none : (s : Bytes) (from : ℕ) → Spells s from (record { end = from; key = 0 })
unfolding key_of
spells-none s from = let z : from - from ≡ 0 = omega arith in record { key = rw z; small = rw z tt }

key_more : (k x : ℕ) (xs : Bytes) → key_of k (xs ++ (x ∷ [])) ≡ key_of k xs % 72057594037927936 * 256 + x
unfolding key_of
key_more k x [] = refl
key_more k x (y ∷ ys) = key_more (k % 72057594037927936 * 256 + y) x ys

small-more : (x : ℕ) (xs : Bytes) → x < 256 → Small xs → Small (xs ++ (x ∷ []))
small-more x [] h s = (h, tt)
small-more x (y ∷ ys) h s = (s.0, small-more x ys h s.1)

part-more : (s : Bytes) (from i : ℕ) → from ≤ i → i < length s → part from (i + 1) s ≡ part from i s ++ (get_or s i 0 ∷ [])
part-more s from i l h =
    let e : i + 1 - from ≡ suc (i - from) = omega arith in
    let f : from + (i - from) ≡ i = omega arith in
    let n : i - from < length (drop from s) = rw length-drop (omega arith) in
    ap (λ (n : ℕ). take n (drop from s)) e ∙ take-suc (drop from s) (i - from) 0 n ∙ ap (λ (x : ℕ). part from i s ++ (x ∷ [])) (get_or-drop from s (i - from) 0 ∙ ap (λ (j : ℕ). get_or s j 0) f)

-- one more
pub spells-more : (s : Bytes) (from i k b : ℕ) → from ≤ i → i < length s → b ≡ get_or s i 0 → b < 256 → Spells s from (record { end = i; key = k }) → Spells s from (record { end = i + 1; key = k % 72057594037927936 * 256 + b })
spells-more s from i k b l h e r w =
    let p : part from (i + 1) s ≡ part from i s ++ (b ∷ []) = part-more s from i l h ∙ ap (λ (x : ℕ). part from i s ++ (x ∷ [])) (sym e) in
    record { key = ap (λ (j : ℕ). j % 72057594037927936 * 256 + b) w.key ∙ sym (ap (key_of 0) p ∙ key_more 0 b (part from i s)); small = subst Small (sym p) (small-more b (part from i s) r w.small) }

-- ---- bytes back from a key

pub record Peeled : Type 0 where
  pub left : ℕ
  pub bytes : Bytes

-- the last byte of what is left
abbrev step : Peeled → Peeled
step p = record { left = p.left / 256; bytes = p.left % 256 ∷ p.bytes }

peel : ℕ → ℕ → Peeled
peel zero k = record { left = k; bytes = [] }
peel (suc n) k = step (peel n k)

-- what may stand before so many bytes in 64 bits
room : ℕ → ℕ
room zero = 18446744073709551616
room (suc n) = room n / 256

room-top : (n : ℕ) → room n ≤ 18446744073709551616
unfolding room
room-top zero = omega arith
room-top (suc n) = let h : room n ≤ 18446744073709551616 = room-top n in omega arith

kept : (k r : ℕ) → r ≤ 18446744073709551616 → k < r / 256 → k % 72057594037927936 ≡ k
kept k r t h = omega arith

more : (k x r : ℕ) → k < r / 256 → x < 256 → k * 256 + x < r
more k x r h b = omega arith

last-left : (k x : ℕ) → x < 256 → (k * 256 + x) / 256 ≡ k
last-left k x h = omega arith

last_byte : (k x : ℕ) → x < 256 → (k * 256 + x) % 256 ≡ x
last_byte k x h = omega arith

peel-key : (f : Bytes) (k : ℕ) → k < room (length f) → Small f → peel (length f) (key_of k f) ≡ record { left = k; bytes = f }
unfolding key_of peel room
peel-key [] k h s = refl
peel-key (x ∷ xs) k h s =
    let e = kept k (room (length xs)) (room-top (length xs)) h in
    let p = peel-key xs (k * 256 + x) (more k x (room (length xs)) h s.0) s.1 in
    ap (λ (j : ℕ). step (peel (length xs) (key_of (j * 256 + x) xs))) e ∙ ap step p ∙ ap₂ (λ (l b : ℕ). record { left = l; bytes = b ∷ xs }) (last-left k x s.0) (last_byte k x s.0)

-- n and d more
further : ℕ → ℕ → ℕ
further zero n = n
further (suc d) n = suc (further d n)

further-is : (d n : ℕ) → further d n ≡ d + n
unfolding further
further-is zero n = omega arith
further-is (suc d) n = let h : further d n ≡ d + n = further-is d n in omega arith

-- more bytes than there are give zeros in front
peel-zeros : (d n k : ℕ) (f : Bytes) → peel n k ≡ record { left = 0; bytes = f } → peel (further d n) k ≡ record { left = 0; bytes = replicate d 0 ++ f }
unfolding peel further
peel-zeros zero n k f e = e
peel-zeros (suc d) n k f e = ap step (peel-zeros d n k f e)

room-some : (n : ℕ) → n ≤ 8 → 0 < room n
unfolding room
room-some zero h = lit≤ tt
room-some (suc zero) h = lit≤ tt
room-some (suc (suc zero)) h = lit≤ tt
room-some (suc (suc (suc zero))) h = lit≤ tt
room-some (suc (suc (suc (suc zero)))) h = lit≤ tt
room-some (suc (suc (suc (suc (suc zero))))) h = lit≤ tt
room-some (suc (suc (suc (suc (suc (suc zero)))))) h = lit≤ tt
room-some (suc (suc (suc (suc (suc (suc (suc zero))))))) h = lit≤ tt
room-some (suc (suc (suc (suc (suc (suc (suc (suc zero)))))))) h = lit≤ tt
room-some (suc (suc (suc (suc (suc (suc (suc (suc (suc n))))))))) h = absurd (omega arith)

-- ---- words that a key tells

told-peel : (f : Bytes) → Told f → peel (length f) (key_of 0 f) ≡ record { left = 0; bytes = f }
told-peel f t = peel-key f 0 (room-some (length f) t.long) t.small

-- a word that is another one with zeros in front is that one
no-zeros : (d : ℕ) (f g : Bytes) → (get_or g 0 0 ≡ 0 → ⊥) → replicate d 0 ++ f ≡ g → f ≡ g
no-zeros zero f g n e = e
no-zeros (suc d) f g n e = absurd (n (ap (λ (l : Bytes). get_or l 0 0) (sym e)))

-- the shorter one is the longer one
told-longer : (f g : Bytes) (d : ℕ) → Told f → Told g → d + length f ≡ length g → key_of 0 f ≡ key_of 0 g → f ≡ g
told-longer f g d tf tg l e =
    no-zeros d f g tg.first
    (ap (λ (p : Peeled). p.bytes) (sym (peel-zeros d (length f) (key_of 0 f) f (told-peel f tf)) ∙ ap₂ peel (further-is d (length f) ∙ l) e ∙ told-peel g tg))

key-tells : (f g : Bytes) → Told f → Told g → key_of 0 f ≡ key_of 0 g → f ≡ g
key-tells f g tf tg e = go (leb (length f) (length g)) refl
  where
    go : (b : Bool) → leb (length f) (length g) ≡ b → f ≡ g
    go true h = let k = leb-true (length f) (length g) h in told-longer f g (length g - length f) tf tg (omega arith) e
    go false h = let k = leb-false (length f) (length g) h in sym (told-longer g f (length f - length g) tg tf (omega arith) (sym e))

same-by-key : (f g : Bytes) → Told f → Told g → same f g ≡ eqb (key_of 0 f) (key_of 0 g)
same-by-key f g tf tg = go (same f g) refl
  where
    go : (b : Bool) → same f g ≡ b → b ≡ eqb (key_of 0 f) (key_of 0 g)
    go true h = sym (eq-eqb (key_of 0 f) (key_of 0 g) (ap (key_of 0) (same-eq f g h)))
    go false h = sym (ne_eqb (key_of 0 f) (key_of 0 g) (λ e. false≢true (sym h ∙ ap (same f) (sym (key-tells f g tf tg e)) ∙ same_refl f)))

-- ---- keys of fields

-- no word has the key 0
told-some : (w : Bytes) → Told w → 0 ≡ key_of 0 w → ⊥
unfolding peel
told-some w t e =
    let z : length w + 0 ≡ length w = omega arith in
    let b = ap (λ (p : Peeled). p.bytes) (sym (peel-zeros (length w) 0 0 [] refl) ∙ ap₂ peel (further-is (length w) 0 ∙ z) e ∙ told-peel w t) in
    t.first (ap (λ (l : Bytes). get_or l 0 0) (sym (no-zeros (length w) [] w t.first b)))

-- a field that is no such word has it
keyed-none : (f : Bytes) → ((w : Bytes) → Told w → same f w ≡ false) → Keyed f 0
keyed-none f n w t = n w t ∙ sym (ne_eqb 0 (key_of 0 w) (told-some w t))

keyed-first : (f : Bytes) → get_or f 0 0 ≡ 0 → Keyed f 0
keyed-first f h = keyed-none f λ w t. go w t (same f w) refl
  where
    go : (w : Bytes) → Told w → (b : Bool) → same f w ≡ b → b ≡ false
    go w t true e = absurd (t.first (ap (λ (l : Bytes). get_or l 0 0) (sym (same-eq f w e)) ∙ h))
    go w t false e = refl

no_bytes : (f : Bytes) → length f ≡ 0 → get_or f 0 0 ≡ 0
no_bytes [] h = refl
no_bytes (x ∷ xs) h = absurd (omega arith)

-- a word that was spelled at a place, by what the code tests
module _ (s : Bytes) (from : ℕ) (w : Word) (low : from ≤ w.end) (high : w.end ≤ length s) where
  word-long : length (part from w.end s) ≡ w.end - from
  word-long = simp (length-take, length-drop) (omega arith)

  word_first : from < w.end → get_or (part from w.end s) 0 0 ≡ get_or s from 0
  word_first h =
      let e : from + 0 ≡ from = omega arith in
      get_or-take (w.end - from) (drop from s) 0 0 (omega arith) ∙ get_or-drop from s 0 0 ∙ ap (λ (i : ℕ). get_or s i 0) e

  pub keyed-long : 8 < w.end - from → Keyed (part from w.end s) 0
  keyed-long h = keyed-none _ (λ v t. let k = t.long in same-long (part from w.end s) v (λ e. let l = word-long in omega (arith, k, e, l, h)))

  pub keyed-empty : w.end - from ≡ 0 → Keyed (part from w.end s) 0
  keyed-empty h = keyed-first _ (no_bytes (part from w.end s) (word-long ∙ h))

  module _ (some : w.end - from ≡ 0 → ⊥) where
    pub keyed-zero : get_or s from 0 ≡ 0 → Keyed (part from w.end s) 0
    keyed-zero h = keyed-first _ (word_first (omega arith) ∙ h)

    pub keyed-told : w.end - from ≤ 8 → (get_or s from 0 ≡ 0 → ⊥) → Spells s from w → Keyed (part from w.end s) w.key
    keyed-told l n p v t =
        let u : Told (part from w.end s) = record { first = λ e. n (sym (word_first (omega arith)) ∙ e); long = rw word-long l; small = p.small } in
        same-by-key (part from w.end s) v u t ∙ ap (λ (k : ℕ). eqb k (key_of 0 v)) (sym p.key)
