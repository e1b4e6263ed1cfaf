-- Laws of the array that keeps the lines, and of lines that may not be repeated. Assumes nothing.
use Prim.Native.Nat.{ℕ, ◌+◌, ◌-◌, ◌≤◌, ◌<◌}
use mathlib.Core.Path.{◌≡◌, sym, ◌∙◌, ap}
use mathlib.Core.List.{List, [], ◌∷◌, ◌++◌, map, map-append}
use mathlib.Core.Bool.{Bool, true, false, ◌||◌}
use native.Mathlib.Numerals.{add-one}
use native.Mathlib.Omega.{arith}
use lib.ListN.{length, get_or, set, take, drop, length-map, drop_of_length-le, get_or-map}
use lib.Seq.{length-take-le, take-suc-set, drop-cons}
use Rattle.text.specs.Text.{Bytes, same, part, piece}
use Rattle.algebra.specs.Tree.{Triple}
use Rattle.algebra.specs.Valid.{mem}
use Rattle.triples.specs.bridge.Triples.{entry_of, triple_at, whole_at, triples_in, wholes_in, fresh}

module _ (s : Bytes) (keys : List (List ℕ)) (n : ℕ) where
  pub triples-long : n ≤ length keys → length (triples_in s keys n) ≡ n
  unfolding triples_in
  triples-long h = length-map (take n keys) (triple_at s) ∙ length-take-le n keys h

  -- one more
  module _ (from to mid end : ℕ) (room : n < length keys) (a : from ≤ to) (b : to < mid) (c : mid < end) where
    abbrev pub here : Triple
    here = record { subj = part from to s; pred = part (to + 1) mid s; obj = part (mid + 1) end s }

    is-here : triple_at s (entry_of from to mid end) ≡ here
    is-here =
        let x : from + (to - from) + 1 ≡ to + 1 = omega arith in
        let y : from + (to - from) + (mid - (to + 1)) + 2 ≡ mid + 1 = omega arith in
        λ i. record { subj = part from to s; pred = piece (x i) (mid - (to + 1)) s; obj = piece (y i) (end - (mid + 1)) s }

    is_whole : whole_at s (entry_of from to mid end) ≡ part from end s
    is_whole =
        let x : (to - from) + (mid - (to + 1)) + (end - (mid + 1)) + 2 ≡ end - from = omega arith in
        ap (λ k. piece from k s) x

    pub triples-more : triples_in s (set keys n (entry_of from to mid end)) (n + 1) ≡ triples_in s keys n ++ (here ∷ [])
    unfolding triples_in
    triples-more =
        rw (add-one n, take-suc-set keys n (entry_of from to mid end) room)
        (map-append (triple_at s) (take n keys) (entry_of from to mid end ∷ []) ∙ ap (λ d. map (triple_at s) (take n keys) ++ (d ∷ [])) is-here)

    pub wholes-more : wholes_in s (set keys n (entry_of from to mid end)) (n + 1) ≡ wholes_in s keys n ++ (part from end s ∷ [])
    unfolding wholes_in
    wholes-more =
        rw (add-one n, take-suc-set keys n (entry_of from to mid end) room)
        (map-append (whole_at s) (take n keys) (entry_of from to mid end ∷ []) ∙ ap (λ d. map (whole_at s) (take n keys) ++ (d ∷ [])) is_whole)

-- ---- a search through the entries

-- what is left to search says what the whole says
abbrev pub Left : Bytes → List Bytes → ℕ → Type 0
Left f ls i = mem f (drop i ls) ≡ mem f ls

-- the line at a place is what the entry there tells
whole-at : (s : Bytes) (es : List (List ℕ)) (i : ℕ) → i < length es → drop i (map (whole_at s) es) ≡ whole_at s (get_or es i []) ∷ drop (i + 1) (map (whole_at s) es)
whole-at s es i l =
    let long : i < length (map (whole_at s) es) = rw (length-map es (whole_at s)) l in
    rw (add-one, ← get_or-map (whole_at s) es i []) (drop-cons (map (whole_at s) es) i (whole_at s []) long)

module _ (s f : Bytes) (es : List (List ℕ)) (i : ℕ) (left : Left f (map (whole_at s) es) i) where
  module _ (l : i < length es) (b : Bool) (e : b ≡ same f (whole_at s (get_or es i []))) where
    step : mem f (drop i (map (whole_at s) es)) ≡ (b || mem f (drop (i + 1) (map (whole_at s) es)))
    unfolding mem
    step = rw (whole-at s es i l, e)

    -- it is here
    pub found_here : b ≡ true → false ≡ fresh f (map (whole_at s) es)
    unfolding fresh
    found_here h = rw (← left, step, h)

    pub not-here : b ≡ false → Left f (map (whole_at s) es) (i + 1)
    not-here h = sym (rw h at step) ∙ left

  pub found_nowhere : length es ≤ i → true ≡ fresh f (map (whole_at s) es)
  unfolding fresh mem
  found_nowhere h =
      let past : length (map (whole_at s) es) ≤ i = rw (length-map es (whole_at s)) h in
      rw (← left, drop_of_length-le (map (whole_at s) es) past)
