-- Laws of the array that keeps a list's pairs, and of first fields that may not be repeated. Assumes nothing.
use Prim.Native.Nat.{ℕ, ◌+◌, ◌≤◌, ◌<◌}
use mathlib.Core.Path.{◌≡◌, refl, sym, ap, ◌∙◌}
use mathlib.Core.List.{List, [], ◌∷◌, ◌++◌, map, map-append}
use mathlib.Core.Bool.{Bool, true, false, not, ◌||◌}
use native.Mathlib.Numerals.{add-one}
use native.Mathlib.Omega.{arith}
use lib.ListN.{length, get_or, set, take, drop, length-map, drop_of_length-le, get_or-map}
use lib.Seq.{length-take-le, take-suc-set, drop-cons, get_or-take}
use borrow.Author.Tests.{not-true, not-false}
use Rattle.text.specs.Text.{Bytes, same, part}
use Rattle.text.proofs.Basics.{same-eq}
use Rattle.algebra.specs.Query.{Pair}
use Rattle.algebra.specs.Valid.{mem}
use Rattle.lists.specs.bridge.Pairs.{pair_at, entry_of, pairs_in, firsts, fresh}

-- the pair at a place is what the entry there tells, of all entries
entry-at : (s : Bytes) (es : List (List ℕ)) (i : ℕ) → i < length es → drop i (map (pair_at s) es) ≡ pair_at s (get_or es i []) ∷ drop (i + 1) (map (pair_at s) es)
entry-at s es i l =
    let long : i < length (map (pair_at s) es) = rw (length-map es (pair_at s)) l in
    rw (add-one, ← get_or-map (pair_at s) es i []) (drop-cons (map (pair_at s) es) i (pair_at s []) long)

module _ (s : Bytes) (keys : List (List ℕ)) (n : ℕ) where
  pub pairs-long : n ≤ length keys → length (pairs_in s keys n) ≡ n
  unfolding pairs_in
  pairs-long h = length-map (take n keys) (pair_at s) ∙ length-take-le n keys h

  -- and of the first n
  pub pair-at : (i : ℕ) → n ≤ length keys → i < n → drop i (pairs_in s keys n) ≡ pair_at s (get_or keys i []) ∷ drop (i + 1) (pairs_in s keys n)
  unfolding pairs_in
  pair-at i h l =
      let long : i < length (take n keys) = rw (length-take-le n keys h) l in
      rw (← get_or-take n keys i [] l) (entry-at s (take n keys) i long)

  -- one more
  pub pairs-more : (from to end : ℕ) → n < length keys
      → pairs_in s (set keys n (entry_of from to end)) (n + 1) ≡ pairs_in s keys n ++ (record { first = part from to s; second = part (to + 1) end s } ∷ [])
  unfolding pairs_in
  pairs-more from to end h =
      rw (add-one n, take-suc-set keys n (entry_of from to end) h)
      (map-append (pair_at s) (take n keys) (entry_of from to end ∷ []))

-- ---- two fields, their ends first

pub same_none : (f g : Bytes) → length f ≡ 0 → length f ≡ length g → true ≡ same f g
unfolding same
same_none [] [] h e = refl
same_none [] (y ∷ ys) h e = absurd (omega arith)
same_none (x ∷ xs) g h e = absurd (omega arith)

pub same_differs : (f g : Bytes) (i : ℕ) → (get_or f i 0 ≡ get_or g i 0 → ⊥) → false ≡ same f g
same_differs f g i h = sym (told (same f g) refl)
  where
    told : (b : Bool) → same f g ≡ b → same f g ≡ false
    told true e = absurd (h (ap (λ (z : Bytes). get_or z i 0) (same-eq f g e)))
    told false e = e

-- ---- a search through the entries

pub fresh-any : (apart : Bool) (f : Bytes) (ns : List Bytes) → not apart ≡ true → true ≡ fresh apart f ns
unfolding fresh
fresh-any apart f ns e = rw (not-true apart e)

-- what is left to search says what the whole says
abbrev pub Left : Bytes → List Pair → ℕ → Type 0
Left f xs i = mem f (firsts (drop i xs)) ≡ mem f (firsts xs)

module _ (s f : Bytes) (es : List (List ℕ)) (i : ℕ) (left : Left f (map (pair_at s) es) i) where
  module _ (l : i < length es) (b : Bool) (e : b ≡ same f (pair_at s (get_or es i [])).first) where
    step : mem f (firsts (drop i (map (pair_at s) es))) ≡ (b || mem f (firsts (drop (i + 1) (map (pair_at s) es))))
    unfolding mem
    step = rw (entry-at s es i l, e)

    -- it is here
    pub found_here : (apart : Bool) → not apart ≡ false → b ≡ true → false ≡ fresh apart f (firsts (map (pair_at s) es))
    unfolding fresh
    found_here apart must h = rw (not-false apart must, ← left, step, h)

    pub not-here : b ≡ false → Left f (map (pair_at s) es) (i + 1)
    not-here h = sym (rw h at step) ∙ left

  pub found_nowhere : (apart : Bool) → not apart ≡ false → length es ≤ i → true ≡ fresh apart f (firsts (map (pair_at s) es))
  unfolding fresh mem
  found_nowhere apart must h =
      let past : length (map (pair_at s) es) ≤ i = rw (length-map es (pair_at s)) h in
      rw (not-false apart must, ← left, drop_of_length-le (map (pair_at s) es) past)
