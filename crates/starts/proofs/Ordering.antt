-- A table's entries in order: the pass over neighbours, and the search by halves. Assumes nothing.
use Prim.Native.Nat.{ℕ, zero, suc, ◌+◌, ◌-◌, ◌≤◌, ◌<◌}
use mathlib.Core.Path.{◌≡◌, refl, sym, ◌∙◌, ap, ap₂, subst}
use mathlib.Core.List.{List, [], ◌∷◌}
use mathlib.Core.Bool.{Bool, true, false, cond, not, ◌&&◌, true≢false}
use mathlib.Core.Option.{none, some}
use native.Mathlib.Numerals.{add-one}
use native.Mathlib.Omega.{arith}
use native.Mathlib.Decide.{dec_lt}
use lib.ListN.{length, get_or, drop, length-drop}
use lib.Seq.{drop-cons, take_all}
use lib.Dec.{eqb}
use borrow.Author.Tests.{not-true, not-false}
use Rattle.text.proofs.Basics.{and_left, and_right}
use Rattle.text.specs.Text.{Bytes, part}
use Rattle.converting.specs.Starts.{Start, old_starts, begins, less, in_order}
use Rattle.converting.specs.Namespaces.{covers, covering_line}
use Rattle.converting.specs.bridge.Order.{before, neighbours, rank, line_if, last_of, searched}
use Rattle.converting.proofs.Order.{neighbours-enough, covering-searched, begins-not-above, begins-then-above, rank_below, rank-above}
use Rattle.starts.specs.bridge.Starts.{start_at, starts_in, Shares, Ordered, Found, Covering}
use Rattle.starts.proofs.Compared.{second-begins, second-not}
use Rattle.starts.proofs.Keys.{starts-long, olds-long, start-at}
use Rattle.std.specs.Prelude.{Some, None}

-- ---- neighbours

neighbours-step : (bs : List Bytes) (i : ℕ) → i + 1 < length bs → neighbours (drop i bs) ≡ (before (get_or bs i []) (get_or bs (i + 1) []) && neighbours (drop (i + 1) bs))
unfolding neighbours
neighbours-step bs i h =
    let k : i < length bs = omega arith in
    let j : suc i < length bs = omega arith in
    rw (add-one, drop-cons bs i [] k, drop-cons bs (suc i) [] j) refl

-- a start stands before the next one
follows : (bs : List Bytes) → neighbours bs ≡ true → (i : ℕ) → suc i < length bs → before (get_or bs i []) (get_or bs (suc i) []) ≡ true
unfolding neighbours
follows [] n i h = absurd (omega arith)
follows (a ∷ []) n i h = absurd (omega arith)
follows (a ∷ b ∷ bs) n zero h = and_left (before a b) (neighbours (b ∷ bs)) n
follows (a ∷ b ∷ bs) n (suc i) h = follows (b ∷ bs) (and_right (before a b) (neighbours (b ∷ bs)) n) i (omega arith)

neighbours-last : (bs : List Bytes) (i : ℕ) → length bs ≤ i + 1 → neighbours (drop i bs) ≡ true
unfolding neighbours
neighbours-last bs i h = go (drop i bs) (let l = length-drop i bs in omega arith)
  where
    go : (cs : List Bytes) → length cs ≤ 1 → neighbours cs ≡ true
    go [] k = refl
    go (c ∷ []) k = refl
    go (c ∷ d ∷ cs) k = absurd (omega arith)

-- what is left to compare says what the whole says
abbrev pub Left : Bytes → List (List ℕ) → ℕ → ℕ → Type 0
Left s keys n i = (1 ≤ i) × (neighbours (drop (i - 1) (old_starts (starts_in s keys n))) ≡ in_order (old_starts (starts_in s keys n)))

pub left-start : (s : Bytes) (keys : List (List ℕ)) (n : ℕ) → Left s keys n 1
left-start s keys n = (omega arith, sym (neighbours-enough (old_starts (starts_in s keys n))))

module _ (s : Bytes) (keys : List (List ℕ)) (n : ℕ) (room : length keys ≡ 64) (few : n ≤ 64) where
  abbrev olds : List Bytes
  olds = old_starts (starts_in s keys n)

  -- the old start of an entry
  pub old-at : (i : ℕ) → i < n → get_or olds i [] ≡ (start_at s (get_or keys i [])).old
  old-at i h = old-is (starts_in s keys n) i (let l = starts-long s keys n (omega arith) in omega arith) ∙ ap (λ (x : Start). x.old) (start-at s keys n i (omega arith) h)
    where
      old-is : (ss : List Start) (i : ℕ) → i < length ss → get_or (old_starts ss) i [] ≡ (get_or ss i (record { old = []; new = [] })).old
      old-is [] i h = absurd (omega arith)
      old-is (x ∷ ss) zero h = refl
      old-is (x ∷ ss) (suc i) h = old-is ss i (omega arith)

  module _ (i : ℕ) (l : Left s keys n i) where
    module _ (h : i < n) (b : Bool) (e : b ≡ before (start_at s (get_or keys (i - 1) [])).old (start_at s (get_or keys i [])).old) where
      step : neighbours (drop (i - 1) olds) ≡ (b && neighbours (drop i olds))
      step =
          let low = l.0 in
          let long = olds-long s keys n (omega arith) in
          let z : i - 1 + 1 ≡ i = omega arith in
          neighbours-step olds (i - 1) (omega arith)
          ∙ ap₂ ◌&&◌ (ap₂ before (old-at (i - 1) (omega arith)) (ap (λ (k : ℕ). get_or olds k []) z ∙ old-at i h) ∙ sym e) (ap (λ (k : ℕ). neighbours (drop k olds)) z)

      pub not-ordered : not b ≡ true → false ≡ in_order olds
      not-ordered k = sym (ap (λ (t : Bool). t && neighbours (drop i olds)) (not-true b k)) ∙ sym step ∙ l.1

      pub left-next : not b ≡ false → Left s keys n (i + 1)
      left-next k =
          let z : i + 1 - 1 ≡ i = omega arith in
          (omega arith, ap (λ (k : ℕ). neighbours (drop k olds)) z ∙ sym (ap (λ (t : Bool). t && neighbours (drop i olds)) (not-false b k)) ∙ sym step ∙ l.1)

    pub all-ordered : n ≤ i → true ≡ in_order olds
    all-ordered h =
        let low = l.0 in
        let long = olds-long s keys n (omega arith) in
        sym (neighbours-last olds (i - 1) (omega arith)) ∙ l.1

-- ---- the search

rank_most : (x : Bytes) (bs : List Bytes) → rank x bs ≤ length bs
unfolding rank
rank_most x [] = omega arith
rank_most x (b ∷ bs) = go (less x b) (rank_most x bs)
  where
    go : (t : Bool) → rank x bs ≤ length bs → cond t 0 (suc (rank x bs)) ≤ suc (length bs)
    go true h = omega arith
    go false h = omega arith

-- the number looked for stands between these
abbrev pub Between : Bytes → List (List ℕ) → ℕ → Bytes → ℕ → ℕ → Type 0
Between s keys n x low high = (low ≤ rank x (old_starts (starts_in s keys n))) × (rank x (old_starts (starts_in s keys n)) ≤ high) × (high ≤ n)

module _ (s : Bytes) (keys : List (List ℕ)) (n : ℕ) (o : Ordered s keys n) (x : Bytes) where
  abbrev table : List Bytes
  table = old_starts (starts_in s keys n)

  rank-high : rank x table ≤ n
  rank-high = let l = olds-long s keys n (let r = o.room in let f = o.few in omega arith) in let h = rank_most x table in omega arith

  pub between_start : Between s keys n x 0 n
  between_start = (omega arith, rank-high, omega arith)

  module _ (mid : ℕ) (h : mid < n) (b : Bool) (e : b ≡ less x (start_at s (get_or keys mid [])).old) where
    here : b ≡ less x (get_or table mid [])
    here = e ∙ ap (less x) (sym (old-at s keys n o.room o.few mid h))

    pub below : b ≡ true → rank x table ≤ mid
    below t = go (dec_lt mid (rank x table))
      where
        go : Dec (mid < rank x table) → rank x table ≤ mid
        go (yes k) = absurd (true≢false (sym t ∙ here ∙ rank_below x table mid k))
        go (no k) = omega arith

    pub above : b ≡ false → mid + 1 ≤ rank x table
    above t = go (dec_lt mid (rank x table))
      where
        go : Dec (mid < rank x table) → mid + 1 ≤ rank x table
        go (yes k) = omega arith
        go (no k) = absurd (true≢false (sym (here ∙ rank-above x table o.ordered mid (omega arith) (let l = olds-long s keys n (let r = o.room in let f = o.few in omega arith) in omega arith)) ∙ t))

-- ---- the line that covers an IRI

line_at : (x : Bytes) (ss : List Start) (k : ℕ) (d : Start) → k < length ss → line_if x ss k ≡ cond (covers x (get_or ss k d)) (some (get_or ss k d)) none
unfolding line_if
line_at x [] k d h = absurd (omega arith)
line_at x (s ∷ ss) zero d h = refl
line_at x (s ∷ ss) (suc k) d h = line_at x ss k d (omega arith)

begun : (a x : Bytes) → begins a x ≡ true → length a ≤ length x
unfolding begins
begun [] x h = omega arith
begun (y ∷ a) [] h = absurd (true≢false (sym h))
begun (y ∷ a) (z ∷ x) h = let k = begun a x (and_right (eqb y z) (begins a x) h) in omega arith

-- a line that covers x is the last that is passed
module _ (x : Bytes) (bs : List Bytes) (n : neighbours bs ≡ true) (mid : ℕ) (h : mid < length bs) (b : begins (get_or bs mid []) x ≡ true) where
  rank-low : mid < rank x bs
  rank-low = go (dec_lt mid (rank x bs))
    where
      go : Dec (mid < rank x bs) → mid < rank x bs
      go (yes k) = k
      go (no k) = absurd (true≢false (sym (rank-above x bs n mid (omega arith) h) ∙ begins-not-above (get_or bs mid []) x b))

  rank_is : rank x bs ≡ suc mid
  rank_is = go (dec_lt (mid + 1) (length bs))
    where
      next : mid + 1 < length bs → Dec (mid + 1 < rank x bs) → rank x bs ≡ suc mid
      next k (yes l) = absurd (true≢false (sym (begins-then-above (get_or bs mid []) (get_or bs (mid + 1) []) x b (ap (λ (j : ℕ). before (get_or bs mid []) (get_or bs j [])) (add-one mid) ∙ follows bs n mid (omega arith))) ∙ rank_below x bs (mid + 1) l))
      next k (no l) = let m = rank-low in omega arith

      go : Dec (mid + 1 < length bs) → rank x bs ≡ suc mid
      go (yes k) = next k (dec_lt (mid + 1) (rank x bs))
      go (no k) = let m = rank-low in let t = rank_most x bs in omega arith

-- the line before the place was looked at and does not cover x
abbrev pub Untaken : Bytes → List (List ℕ) → Bytes → ℕ → Type 0
Untaken s keys x low = (low ≡ 0 → ⊥) → begins (start_at s (get_or keys (low - 1) [])).old x ≡ false

pub untaken : (s : Bytes) (keys : List (List ℕ)) (x : Bytes) (mid : ℕ) (old : Bytes) → old ≡ (start_at s (get_or keys mid [])).old → (r : ℕ) → Shares x old r → (r ≡ length old → ⊥) → Untaken s keys x (mid + 1)
untaken s keys x mid old is r shares q z =
    let w : mid + 1 - 1 ≡ mid = omega arith in
    ap (λ (k : ℕ). begins (start_at s (get_or keys k [])).old x) w ∙ ap (λ (a : Bytes). begins a x) (sym is) ∙ second-not x old r shares q

module _ (s : Bytes) (keys : List (List ℕ)) (n : ℕ) (o : Ordered s keys n) (iri : Bytes) (some_byte : 1 ≤ length iri) where
  abbrev ss : List Start
  ss = starts_in s keys n

  abbrev behind : Bytes
  behind = part 1 (length iri) iri

  is-behind : behind ≡ drop 1 iri
  is-behind = take_all (length iri - 1) (drop 1 iri) (simp length-drop (omega arith))

  long : length (old_starts ss) ≡ n
  long = olds-long s keys n (let r = o.room in let f = o.few in omega arith)

  by_rank : (k : ℕ) → rank behind (old_starts ss) ≡ k → covering_line ss iri ≡ last_of iri ss k
  unfolding searched
  by_rank k e = covering-searched ss iri o.ordered ∙ ap (last_of iri ss) (ap (λ (y : Bytes). rank y (old_starts ss)) (sym is-behind) ∙ e)

  by_last : (mid : ℕ) → mid < n → rank behind (old_starts ss) ≡ suc mid → (b : Bool) → begins (start_at s (get_or keys mid [])).old behind ≡ b → covering_line ss iri ≡ cond b (some (start_at s (get_or keys mid []))) none
  unfolding covers
  by_last mid h e b c =
      by_rank (suc mid) e
      ∙ line_at iri ss mid (record { old = []; new = [] }) (let l = starts-long s keys n (let r = o.room in let f = o.few in omega arith) in omega arith)
      ∙ ap (λ (t : Start). cond (begins t.old (drop 1 iri)) (some t) none) (start-at s keys n mid (let r = o.room in let f = o.few in omega arith) h)
      ∙ ap (λ (t : Bool). cond t (some (start_at s (get_or keys mid []))) none) (ap (begins (start_at s (get_or keys mid [])).old) (sym is-behind) ∙ c)

  module _ (mid : ℕ) (h : mid < n) (old : Bytes) (is : old ≡ (start_at s (get_or keys mid [])).old) (r : ℕ) (shares : Shares behind old r) where
    -- it covers the IRI
    pub taken : r ≡ length old → Found s keys n iri (Some mid)
    unfolding Found
    taken e =
        let b : begins (start_at s (get_or keys mid [])).old behind ≡ true = ap (λ (a : Bytes). begins a behind) (sym is) ∙ second-begins behind old r shares e in
        let c : begins (get_or (old_starts ss) mid []) behind ≡ true = ap (λ (a : Bytes). begins a behind) (old-at s keys n o.room o.few mid h) ∙ b in
        let y = begun (start_at s (get_or keys mid [])).old behind b in
        let w : length behind ≡ length iri - 1 = ap length is-behind ∙ length-drop 1 iri in
        (h, by_last mid h (rank_is behind (old_starts ss) o.ordered mid (let l = long in omega arith) c) true b, omega arith)

  -- none does
  pub none-covers : (low high : ℕ) → Between s keys n behind low high → Untaken s keys behind low → high ≤ low → Found s keys n iri None
  unfolding Found
  none-covers zero high b u h = by_rank 0 (let x = b.0 in let y = b.1 in omega arith)
  none-covers (suc k) high b u h =
      let x = b.0 in
      let y = b.1 in
      let z = b.2 in
      let w : suc k - 1 ≡ k = omega arith in
      by_last k (omega arith) (omega arith) false (ap (λ (i : ℕ). begins (start_at s (get_or keys i [])).old behind) (sym w) ∙ u (λ e. omega arith))

-- ---- what a search tells

module _ (s : Bytes) (keys : List (List ℕ)) (n : ℕ) (iri : Bytes) (r : Covering) (f : Found s keys n iri r) where
  pub says-by : (k : ℕ) → r ≡ Some k → (k < n) × (covering_line (starts_in s keys n) iri ≡ some (start_at s (get_or keys k []))) × (length (start_at s (get_or keys k [])).old < length iri)
  unfolding Found
  says-by k q = subst (Found s keys n iri) q f

  pub says_none : r ≡ None → covering_line (starts_in s keys n) iri ≡ none
  unfolding Found
  says_none q = subst (Found s keys n iri) q f
