-- The places of positions among others; and the masks of positions. Assumes nothing.
use Prim.Native.Nat.{ℕ, zero, suc, ◌+◌, ◌-◌, ◌^◌, ◌≤◌, ◌<◌}
use mathlib.Core.Path.{◌≡◌, refl, sym, ap, ap₂, ◌∙◌}
use mathlib.Core.List.{List, [], ◌∷◌, map}
use mathlib.Core.Bool.{Bool, true, false, cond, ◌||◌}
use native.Mathlib.Omega.{arith}
use native.Mathlib.Numerals.{add-one}
use lib.ListN.{length, get_or, take, drop, set, length-take, drop_of_length-le}
use lib.Seq.{drop-cons, get_or-take, get_or-set_same, get_or-set_other}
use lib.Dec.{eqb, ltb}
use lib.Bits.{bit_or}
use borrow.Author.Tests.{eq-eqb, ne_eqb, eqb-true, eqb-false, ltb-true}
use Rattle.text.proofs.Basics.{and_left, and_right}
use Rattle.merging.specs.Names.{from, is_at, place_in}
use Rattle.scoping.specs.Sets.{all, any}
use Rattle.algebra.specs.Tally.{bounds}
use Rattle.mask.specs.bridge.Mask.{mask_of}
use Rattle.mask.proofs.Bits.{or-first, or_later}
use Rattle.columns.specs.bridge.Listed.{Ordered}

place-cons : (p q : ℕ) (ps : List ℕ) → place_in p (q ∷ ps) ≡ cond (eqb p q) 0 (suc (place_in p ps))
unfolding place_in
place-cons p q ps = refl

module _ (at : List ℕ) (m k : ℕ) (long : m ≤ length at) (low : k < m) where
  unrolled : drop k (take m at) ≡ get_or at k 0 ∷ drop (k + 1) (take m at)
  unrolled =
      let l : k < length (take m at) = simp length-take (omega arith) in
      drop-cons (take m at) k 0 l ∙ ap₂ (λ (x : ℕ) (n : ℕ). x ∷ drop n (take m at)) (get_or-take m at k 0 low) (sym (add-one k))

  place_same : (p : ℕ) → p ≡ get_or at k 0 → place_in p (drop k (take m at)) ≡ 0
  place_same p h = ap (place_in p) unrolled ∙ place-cons p (get_or at k 0) (drop (k + 1) (take m at)) ∙ rw (eq-eqb p (get_or at k 0) h)

  place_other : (p : ℕ) → (p ≡ get_or at k 0 → ⊥) → place_in p (drop k (take m at)) ≡ suc (place_in p (drop (k + 1) (take m at)))
  place_other p h = ap (place_in p) unrolled ∙ place-cons p (get_or at k 0) (drop (k + 1) (take m at)) ∙ rw (ne_eqb p (get_or at k 0) h)

-- ---- the places of all positions, noted from the last to the first

-- the positions from number k on were noted
pub record Ordering (at : List ℕ) (m k : ℕ) (order : List ℕ) : Type 0 where
  pub there : (p : ℕ) → p < bounds.entries → place_in p (drop k (take m at)) < m - k → get_or order p 0 ≡ k + place_in p (drop k (take m at))
  pub else : (p : ℕ) → p < bounds.entries → m - k ≤ place_in p (drop k (take m at)) → m ≤ get_or order p 0

pub order-start : (at : List ℕ) (m : ℕ) (order : List ℕ) → ((p : ℕ) → p < bounds.entries → m ≤ get_or order p 0) → Ordering at m m order
order-start at m order h = record { there = λ p l i. absurd (omega arith); else = λ p l i. h p l }

pub order-next : (at : List ℕ) (m k n q : ℕ) (order : List ℕ) → m ≤ length at → k < m → n ≡ k + 1 → q ≡ get_or at k 0 → q < length order → length order ≡ bounds.entries
    → Ordering at m n order → Ordering at m k (set order q k)
order-next at m k n q order long low next is room all_of o = record { there = λ p l i. here p (eqb p q) refl l i; else = λ p l i. away p (eqb p q) refl l i }
  where
    ps : ℕ → List ℕ
    ps i = drop i (take m at)

    here : (p : ℕ) (t : Bool) → eqb p q ≡ t → p < bounds.entries → place_in p (ps k) < m - k → get_or (set order q k) p 0 ≡ k + place_in p (ps k)
    here p true h l i = let e = eqb-true p q h in ap (λ (x : ℕ). get_or (set order q k) x 0) e ∙ get_or-set_same order q k 0 room ∙ (let z = place_same at m k long low p (e ∙ is) in omega arith)
    here p false h l i =
        let e = eqb-false p q h in
        let z = place_other at m k long low p (λ w. e (w ∙ sym is)) in
        let y = rw (next) at (o.there p l) in
        get_or-set_other order q p k 0 e ∙ y (omega arith) ∙ (omega arith)

    away : (p : ℕ) (t : Bool) → eqb p q ≡ t → p < bounds.entries → m - k ≤ place_in p (ps k) → m ≤ get_or (set order q k) p 0
    away p true h l i = absurd (let e = eqb-true p q h in let z = place_same at m k long low p (e ∙ is) in omega arith)
    away p false h l i =
        let e = eqb-false p q h in
        let z = place_other at m k long low p (λ w. e (w ∙ sym is)) in
        let y = rw (next) at (o.else p l) in
        let g = get_or-set_other order q p k 0 e in
        let w = y (omega arith) in omega arith

pub order-done : (at : List ℕ) (m : ℕ) (order : List ℕ) → m ≤ length at → Ordering at m 0 order → Ordered (take m at) order
order-done at m order long o =
    let e : length (take m at) ≡ m = simp length-take (omega arith) in
    record { there = λ p l i. let z = o.there p l (omega arith) in omega arith; else = λ p l i. let z = o.else p l (omega arith) in omega arith }

-- ---- the mask of positions

-- the bits of n columns from number i on
abbrev pub bits_from : List ℕ → ℕ → ℕ → List Bool
bits_from ps i n = map (λ j. is_at j ps) (from i n)

-- one position more sets no bit behind its place
pub bits-behind : (p : ℕ) (ps : List ℕ) (i n : ℕ) → p < i → bits_from (p ∷ ps) i n ≡ bits_from ps i n
unfolding from is_at any
bits-behind p ps i zero h = refl
bits-behind p ps i (suc n) h = ap₂ (λ (t : Bool) (bs : List Bool). (t || is_at i ps) ∷ bs) (ne_eqb i p (λ e. omega arith)) (bits-behind p ps (suc i) n (omega arith))

-- and sets the one at it
bits-more : (p : ℕ) (ps : List ℕ) (i d n : ℕ) → p ≡ i + d → d < n → bit_or (mask_of (bits_from ps i n)) (2 ^ d) ≡ mask_of (bits_from (p ∷ ps) i n)
unfolding from is_at any
bits-more p ps i d zero e h = absurd (omega arith)
bits-more p ps i zero (suc n) e h =
    or-first (is_at i ps) (bits_from ps (suc i) n)
    ∙ ap₂ (λ (t : Bool) (bs : List Bool). mask_of ((t || is_at i ps) ∷ bs)) (sym (eq-eqb i p (omega arith))) (sym (bits-behind p ps (suc i) n (omega arith)))
bits-more p ps i (suc d) (suc n) e h =
    or_later (is_at i ps) (bits_from ps (suc i) n) (bits_from (p ∷ ps) (suc i) n) d (bits-more p ps (suc i) d n (omega arith) (omega arith))
    ∙ ap (λ (t : Bool). mask_of ((t || is_at i ps) ∷ bits_from (p ∷ ps) (suc i) n)) (sym (ne_eqb i p (λ q. omega arith)))

-- no position, no bit
pub none-set : (n i : ℕ) → mask_of (bits_from [] i n) ≡ 0
unfolding from is_at any mask_of
none-set zero i = refl
none-set (suc n) i = let z = none-set n (suc i) in omega arith

-- a position among some that are below c
below : (c : ℕ) (ps : List ℕ) (k : ℕ) → k < length ps → all (λ p. ltb p c) ps ≡ true → get_or ps k 0 < c
unfolding all
below c [] k h a = absurd (omega arith)
below c (p ∷ ps) zero h a = ltb-true p c (and_left (ltb p c) (all (λ p. ltb p c) ps) a)
below c (p ∷ ps) (suc k) h a = below c ps k (omega arith) (and_right (ltb p c) (all (λ p. ltb p c) ps) a)

-- the positions from the last to the first
pub bits-start : (at : List ℕ) (m c : ℕ) → m ≤ length at → 0 ≡ mask_of (bits_from (drop m (take m at)) 0 c)
bits-start at m c long = sym (ap (λ (ps : List ℕ). mask_of (bits_from ps 0 c)) (drop_of_length-le (take m at) {i = m} (simp length-take (omega arith))) ∙ none-set c 0)

module _ (at : List ℕ) (m c k : ℕ) (long : m ≤ length at) (low : k < m) (inside : all (λ p. ltb p c) (take m at) ≡ true) where
  pub place-below : (p : ℕ) → p ≡ get_or at k 0 → p < c
  place-below p q = let z = below c (take m at) k (simp length-take (omega arith)) inside in let e = get_or-take m at k 0 low in omega arith

  pub bits-next : (n p g g' : ℕ) → n ≡ k + 1 → p ≡ get_or at k 0 → g ≡ mask_of (bits_from (drop n (take m at)) 0 c) → g' ≡ bit_or g (2 ^ p) → g' ≡ mask_of (bits_from (drop k (take m at)) 0 c)
  bits-next n p g g' t q e r =
      let l = place-below p q in
      r
      ∙ ap (λ (x : ℕ). bit_or x (2 ^ p)) (e ∙ ap (λ (n : ℕ). mask_of (bits_from (drop n (take m at)) 0 c)) t)
      ∙ bits-more p (drop (k + 1) (take m at)) 0 p c (omega arith) l
      ∙ ap (λ (ps : List ℕ). mask_of (bits_from ps 0 c)) (ap (λ (x : ℕ). x ∷ drop (k + 1) (take m at)) q ∙ sym (unrolled at m k long low))
