-- Laws of the pushes in arrays: one push more, with its base in the table of bases. Assumes nothing.
use mathlib.Core.Path.{◌≡◌, refl, sym, ap, ap₂, subst, ◌∙◌}
use mathlib.Core.List.{List, [], ◌∷◌, ◌++◌}
use mathlib.Core.Bool.{Bool, true, false, cond, ◌||◌}
use mathlib.Core.Logic.{⊎_elim}
use Prim.Native.Nat.{ℕ, zero, suc, ◌+◌, ◌≤◌, ◌<◌}
use native.Mathlib.Nat.{le_refl, le_step, eq-or-lt_of_le}
use native.Mathlib.Decide.{dec_le}
use native.Mathlib.Numerals.{add-one}
use native.Mathlib.Omega.{arith}
use lib.ListN.{length, take, drop, get_or, set, length-take, length-append, length-set, get_or-append}
use lib.Seq.{take-take, get_or-set_same, get_or-set_other, get_or-append_seam}
use Rattle.text.specs.Text.{Bytes, same, piece}
use Rattle.algebra.specs.Valid.{mem}
use Rattle.names.specs.bridge.Names.{name_at, listing, kept, Holds}
use Rattle.names.proofs.Laws.{listing-long, holds-long, holds-none}
use Rattle.names.proofs.Laws.{listing-at}
use Rattle.scoping.specs.Label.{base}
use Rattle.scoping.specs.bridge.Pushes.{Push, a_push, contains, pushed}
use Rattle.naming.specs.bridge.Code.{book, Stored, LabelAt}
use Rattle.naming.proofs.Lookup.{contains-at, contains-none, contains-listed}

-- a push is kept for each
pub book-long : (s : Bytes) (f l g n : List ℕ) (m : ℕ) → length (book s f l g n m) ≡ m
unfolding book
book-long s f l g n zero = refl
book-long s f l g n (suc m) = ap suc (book-long s f l g n m)

-- no push
pub stored-none : (s : Bytes) (f l h g n : List ℕ) → length f ≡ 1024 → length l ≡ 1024 → length h ≡ 2048 → length g ≡ 1024 → length n ≡ 1024 → Stored s f l h g n 0
unfolding listing
stored-none s f l h g n a b c d e = record { few = omega arith; bases = holds-none s f l h a b c; prefixes = d; numbers = e; small = λ k q. absurd (omega arith) }

-- ---- the arrays agree

book-agree : (s : Bytes) (f l g n f' l' g' n' : List ℕ) (m : ℕ) → ((k : ℕ) → k < m → name_at s f l k ≡ name_at s f' l' k)
    → ((k : ℕ) → k < m → get_or g k 0 ≡ get_or g' k 0) → ((k : ℕ) → k < m → get_or n k 0 ≡ get_or n' k 0) → book s f l g n m ≡ book s f' l' g' n' m
unfolding book
book-agree s f l g n f' l' g' n' zero x z w = refl
book-agree s f l g n f' l' g' n' (suc m) x z w =
    λ i. a_push (x m (le_refl (suc m)) i) (z m (le_refl (suc m)) i) (w m (le_refl (suc m)) i)
    ∷ book-agree s f l g n f' l' g' n' m (λ k h. x k (le_step h)) (λ k h. z k (le_step h)) (λ k h. w k (le_step h)) i

other : (l : List ℕ) (i x k : ℕ) → k < i → get_or (set l i x) k 0 ≡ get_or l k 0
other l i x k h = get_or-set_other l i k x 0 (λ e. omega arith)

-- a table of at most 1,024 names counts them
holds-count : (s a l h : List ℕ) (r : ℕ) (want : List Bytes) → Holds s a l h r want → length want ≤ 1024 → r ≡ length want
holds-count s a l h r want q few = go (dec_le r 1024)
  where
    go : Dec (r ≤ 1024) → r ≡ length want
    go (yes k) = sym (holds-long s a l h r want q k)
    go (no k) = let x = q.over (omega arith) in absurd (omega arith)

-- ---- one push more

-- the base of a name is a shorter piece at the same place
pub base-at : (s : Bytes) (a e : List ℕ) (k x y z : ℕ) (w : Bytes) → (x ≡ get_or a k 0) × (x < 65536) → (y ≡ get_or e k 0) × (y < 65536) → w ≡ piece x y s → (take z w ≡ base w) × (z ≤ length w)
    → (piece (get_or a k 0) z s ≡ base (name_at s a e k)) × (z < 65536)
base-at s a e k x y z w ex ey ew ez =
    let q : z ≤ y = omega (arith, ez.1, ap length ew, length-take y (drop x s)) in
    (ap (λ (i : ℕ). piece i z s) (sym ex.0) ∙ sym (take-take z y (drop x s) q) ∙ ap (take z) (sym ew) ∙ ez.0 ∙ ap base (ew ∙ ap₂ (λ (i j : ℕ). piece i j s) ex.0 ey.0), omega arith)

-- v is the name at entry k, b its base, i where b without its Label was found
module _ (s : Bytes) (f l h g n : List ℕ) (m : ℕ) (stored : Stored s f l h g n m) (a e : List ℕ) (k x z : ℕ) (ex : (x ≡ get_or a k 0) × (x < 65536))
    (ez : (piece (get_or a k 0) z s ≡ base (name_at s a e k)) × (z < 65536)) (b : Bytes) (eb : b ≡ piece x z s) (i : ℕ) (found : LabelAt b s f l m i) (p c : ℕ) where
  abbrev v : Bytes
  v = name_at s a e k

  is : b ≡ base v
  is = eb ∙ ap (λ (d : ℕ). piece d z s) ex.0 ∙ ez.0

  abbrev ps : List Push
  ps = book s f l g n m

  there : contains b ps ≡ true → ps ≡ pushed p c v ps
  unfolding pushed
  there y = let q : contains (base v) ps ≡ true = ap (λ (u : Bytes). contains u ps) (sym is) ∙ y in sym (ap (λ (t : Bool). cond t ps (a_push (base v) p c ∷ ps)) q)

  pub push-labelled : i < m → (ps ≡ pushed p c v ps) × Stored s f l h g n m
  push-labelled low = (there (contains-at s f l g n b i m low (ap (λ (t : Bool). t || same b (name_at s f l i)) (found.here low))), stored)

  module _ (f' l' h' : List ℕ) (r : ℕ) (added : Holds s f' l' h' r (kept (piece x z s) (listing s f l m))) where
    holds : Holds s f' l' h' r (kept b (listing s f l m))
    holds = rw eb added

    long : length (listing s f l m) ≡ m
    long = listing-long s f l m

    own : r ≤ 1024 → (g' n' : List ℕ) → length g' ≡ length g → length n' ≡ length n → ((d : ℕ) → d < r → get_or g' d 0 < 256) → Stored s f' l' h' g' n' r
    own few g' n' eg en small = record {
      few = few;
      bases = subst (λ (ns : List Bytes). Holds s f' l' h' r ns) (sym (holds.fits few)) holds;
      prefixes = eg ∙ stored.prefixes;
      numbers = en ∙ stored.numbers;
      small = small;
    }

    -- the base was there
    was-there : r ≡ m → mem b (listing s f l m) ≡ true
    was-there eq = go (mem b (listing s f l m)) holds
      where
        go : (t : Bool) → Holds s f' l' h' r (cond t (listing s f l m) (listing s f l m ++ (b ∷ []))) → t ≡ true
        go true q = refl
        go false q =
            let few = stored.few in
            let size = holds-long s f' l' h' r (listing s f l m ++ (b ∷ [])) q (omega arith) in
            absurd (omega (arith, size, eq, long, length-append (listing s f l m) (b ∷ [])))

    -- the earlier bases stay
    stays : r ≤ 1024 → m ≤ r → (j : ℕ) → j < m → name_at s f' l' j ≡ name_at s f l j
    stays few most j low =
        sym (listing-at s f' l' j r (omega arith))
        ∙ ap (λ (ns : List Bytes). get_or ns j []) (holds.fits few)
        ∙ go (mem b (listing s f l m))
        ∙ listing-at s f l j m low
      where
        go : (t : Bool) → get_or (cond t (listing s f l m) (listing s f l m ++ (b ∷ []))) j [] ≡ get_or (listing s f l m) j []
        go true = refl
        go false = get_or-append (listing s f l m) (b ∷ []) [] j (omega (arith, long, low))

    pub push-known : r ≡ m → (book s f' l' g n m ≡ pushed p c v ps) × Stored s f' l' h' g n m
    push-known eq =
        let few : r ≤ 1024 = let most = stored.few in omega arith in (
          book-agree s f' l' g n f l g n m (stays few (omega arith)) (λ j low. refl) (λ j low. refl) ∙ there (contains-listed s f l g n b m (was-there eq)),
          subst (λ (d : ℕ). Stored s f' l' h' g n d) eq (own few g n refl refl (λ d w. stored.small d (omega arith))),
        )

    module _ (more : r ≡ m → ⊥) where
      -- the base is new
      was-new : mem b (listing s f l m) ≡ false
      was-new = go (mem b (listing s f l m)) holds
        where
          go : (t : Bool) → Holds s f' l' h' r (cond t (listing s f l m) (listing s f l m ++ (b ∷ []))) → t ≡ false
          go true q = let few = stored.few in let size = holds-count s f' l' h' r (listing s f l m) q (omega (arith, long, few)) in absurd (more (size ∙ long))
          go false q = refl

      not_there : m ≤ i → contains (base v) ps ≡ false
      not_there high = ap (λ (u : Bytes). contains u ps) (sym is) ∙ contains-none s f l g n b m (found.none high) was-new

      pub push-room : m ≤ i → (contains (base v) ps ≡ false → m < 1024) → m < 1024
      push-room high room = room (not_there high)

      pub push-new : m ≤ i → (contains (base v) ps ≡ false → m < 1024) → p < 256 → (g' n' : List ℕ) → (g' ≡ set g m p) × (n' ≡ set n m c) → (book s f' l' g' n' r ≡ pushed p c v ps) × Stored s f' l' h' g' n' r
      unfolding pushed book
      push-new high room byte g' n' put =
          let small = room (not_there high) in
          let ns = listing s f l m in
          let now : kept b ns ≡ ns ++ (b ∷ []) = ap (λ (t : Bool). cond t ns (ns ++ (b ∷ []))) was-new in
          let size : length (kept b ns) ≡ m + 1 = omega (arith, ap length now, length-append ns (b ∷ []), long) in
          let q : r ≡ m + 1 = holds-count s f' l' h' r (kept b ns) holds (omega arith) ∙ size in
          let last : name_at s f' l' m ≡ b =
          sym (listing-at s f' l' m r (omega arith))
          ∙ ap (λ (xs : List Bytes). get_or xs m []) (holds.fits (omega arith) ∙ now)
          ∙ ap (λ (d : ℕ). get_or (ns ++ (b ∷ [])) d []) (sym long)
          ∙ get_or-append_seam ns b [] [] in
          let lg = stored.prefixes in
          let ln = stored.numbers in
          let tag : get_or g' m 0 ≡ p = ap (λ (y : List ℕ). get_or y m 0) put.0 ∙ get_or-set_same g m p 0 (omega arith) in
          let number : get_or n' m 0 ≡ c = ap (λ (y : List ℕ). get_or y m 0) put.1 ∙ get_or-set_same n m c 0 (omega arith) in
          let before : book s f' l' g' n' m ≡ ps =
          book-agree s f' l' g' n' f l g n m (stays (omega arith) (omega arith)) (λ d w. ap (λ (y : List ℕ). get_or y d 0) put.0 ∙ other g m p d w) (λ d w. ap (λ (y : List ℕ). get_or y d 0) put.1 ∙ other n m c d w) in (
            ap (book s f' l' g' n') (q ∙ add-one m)
                ∙ (λ j. a_push (last j) (tag j) (number j) ∷ before j)
                ∙ ap (λ (u : Bytes). a_push u p c ∷ ps) is
                ∙ sym (ap (λ (t : Bool). cond t ps (a_push (base v) p c ∷ ps)) (not_there high)),
            own (omega arith) g' n' (ap length put.0 ∙ length-set g m p) (ap length put.1 ∙ length-set n m c) (λ d w. ⊎_elim (λ (t : d ≡ m). rw (t, tag) byte) (λ (t : d < m). rw (put.0, other g m p d t) (stored.small d t)) (eq-or-lt_of_le (omega arith))),
          )
