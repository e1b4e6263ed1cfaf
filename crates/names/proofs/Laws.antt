-- Laws of the variable table, one for each step of the code. Assumes nothing.
use Prim.Native.Nat.{ℕ, zero, suc, ◌+◌, ◌*◌, ◌-◌, ◌/◌, ◌%◌, ◌≤◌, ◌<◌}
use mathlib.Core.Path.{◌≡◌, refl, sym, ◌∙◌, ap, ap₂, subst}
use mathlib.Core.List.{List, [], ◌∷◌, ◌++◌, append-nil}
use mathlib.Core.Bool.{Bool, true, false, cond, ◌||◌, false≢true}
use mathlib.Core.Logic.{⊎_elim}
use native.Mathlib.Numerals.{add-one}
use native.Mathlib.Nat.{eq-or-lt_of_le, mod-add-div', add-mul-mod_self_right}
use native.Mathlib.Omega.{arith}
use lib.ListN.{length, get_or, set, drop, drop_of_length-le, length-append, length-set}
use lib.Seq.{drop-cons, get_or-set_same, get_or-set_other}
use Rattle.text.specs.Text.{Bytes, same, piece}
use Rattle.text.specs.Field.{is_var}
use Rattle.text.proofs.Basics.{same-eq}
use Rattle.algebra.specs.Valid.{mem}
use Rattle.algebra.specs.Tally.{notes}
use Rattle.names.specs.bridge.Names.{hash_of, place_of, name_at, listing, after, Leads, HintedFrom, Hinted, Grows, Free, kept, Holds, Lists}
use Rattle.names.proofs.Hints.{leads-on, leads-past, leads-back, leads-here, leads-none, grows-set, grows_same, hinted-grows, hinted-more, hinted-last}

-- ---- the hash

pub hash-next : (f : Bytes) (i h b : ℕ) → i < length f → b ≡ get_or f i 0 → hash_of h (drop i f) ≡ hash_of (((h + b) * 16777619) % 4294967296) (drop (i + 1) f)
unfolding hash_of
hash-next f i h b k e = rw (e, add-one, drop-cons f i 0 k)

-- a remainder that was taken before makes no difference
step-late : (y b : ℕ) → ((y % 4294967296 + b) * 16777619) % 4294967296 ≡ ((y + b) * 16777619) % 4294967296
step-late y b =
    let d = mod-add-div' y 4294967296 in
    let e : (y + b) * 16777619 ≡ (y % 4294967296 + b) * 16777619 + y / 4294967296 * 16777619 * 4294967296 = omega (arith, d) in
    sym (ap (λ (n : ℕ). n % 4294967296) e ∙ add-mul-mod_self_right ((y % 4294967296 + b) * 16777619) (y / 4294967296 * 16777619) 4294967296)

-- four steps in one, by the remainders of the product's powers
four-steps : (x b c d : ℕ) → ((((x * 16777619 % 4294967296 + b) * 16777619 % 4294967296 + c) * 16777619 % 4294967296 + d) * 16777619) % 4294967296 ≡ (x * 1345077009 + b * 1055306571 + c * 637696617 + d * 16777619) % 4294967296
four-steps x b c d =
    ap (λ (n : ℕ). ((n + c) * 16777619 % 4294967296 + d) * 16777619 % 4294967296) (step-late (x * 16777619) b)
    ∙ ap (λ (n : ℕ). (n + d) * 16777619 % 4294967296) (step-late ((x * 16777619 + b) * 16777619) c)
    ∙ step-late (((x * 16777619 + b) * 16777619 + c) * 16777619) d
    ∙ ap (λ (n : ℕ). n % 4294967296) powers
    ∙ add-mul-mod_self_right (x * 1345077009 + b * 1055306571 + c * 637696617 + d * 16777619) (x * 18448516550316366547 + b * 1099590862703 + c * 65539) 4294967296
  where
    powers : (((x * 16777619 + b) * 16777619 + c) * 16777619 + d) * 16777619 ≡ x * 1345077009 + b * 1055306571 + c * 637696617 + d * 16777619 + (x * 18448516550316366547 + b * 1099590862703 + c * 65539) * 4294967296
    powers = omega arith

pub hash-four : (f : Bytes) (i h a b c d : ℕ) → i + 4 ≤ length f → a ≡ get_or f i 0 → b ≡ get_or f (i + 1) 0 → c ≡ get_or f (i + 2) 0 → d ≡ get_or f (i + 3) 0
    → hash_of ((((h + a) * 1345077009 + b * 1055306571) + c * 637696617 + d * 16777619) % 4294967296) (drop (i + 4) f) ≡ hash_of h (drop i f)
hash-four f i h a b c d k ea eb ec ed = sym (
    hash-next f i h a (omega (arith, k)) ea
    ∙ hash-next f (i + 1) _ b (omega (arith, k)) eb
    ∙ ap (λ (j : ℕ). hash_of (((h + a) * 16777619 % 4294967296 + b) * 16777619 % 4294967296) (drop j f)) (let e : i + 1 + 1 ≡ i + 2 = omega arith in e)
    ∙ hash-next f (i + 2) _ c (omega (arith, k)) ec
    ∙ ap (λ (j : ℕ). hash_of ((((h + a) * 16777619 % 4294967296 + b) * 16777619 % 4294967296 + c) * 16777619 % 4294967296) (drop j f)) (let e : i + 2 + 1 ≡ i + 3 = omega arith in e)
    ∙ hash-next f (i + 3) _ d (omega (arith, k)) ed
    ∙ ap₂ (λ (x j : ℕ). hash_of x (drop j f)) (four-steps (h + a) b c d) (let e : i + 3 + 1 ≡ i + 4 = omega arith in e))

pub hash-end : (f : Bytes) (i h : ℕ) → length f ≤ i → hash_of h (drop i f) ≡ h
unfolding hash_of
hash-end f i h k = rw (drop_of_length-le f k)

pub place_is : (f : Bytes) (h : ℕ) → h ≡ hash_of 0 f → h / 2097152 ≡ place_of f
unfolding place_of
place_is f h e = ap (λ x. x / 2097152) e

-- ---- names

pub get_d_front : (xs ys : List Bytes) (i : ℕ) → i < length xs → get_or (xs ++ ys) i [] ≡ get_or xs i []
get_d_front [] ys i h = absurd (omega arith)
get_d_front (x ∷ xs) ys zero h = refl
get_d_front (x ∷ xs) ys (suc i) h = get_d_front xs ys i (omega arith)

get_or-behind : (xs : List Bytes) (x : Bytes) → get_or (xs ++ (x ∷ [])) (length xs) [] ≡ x
get_or-behind [] x = refl
get_or-behind (y ∷ xs) x = get_or-behind xs x

or-false : (a b : Bool) → a ≡ false → b ≡ false → (a || b) ≡ false
or-false a b p q = ap₂ ◌||◌ p q

or-true : (a : Bool) → (a || true) ≡ true
or-true true = refl
or-true false = refl

-- a name is among one more
mem-more : (f x : Bytes) (ns : List Bytes) → mem f (ns ++ (x ∷ [])) ≡ (mem f ns || same f x)
unfolding mem
mem-more f x [] = go (same f x)
  where
    go : (b : Bool) → (b || false) ≡ b
    go true = refl
    go false = refl
mem-more f x (n ∷ ns) = rw (mem-more f x ns) (go (same f n) (mem f ns) (same f x))
  where
    go : (a b c : Bool) → (a || (b || c)) ≡ ((a || b) || c)
    go true b c = refl
    go false b c = refl

module _ (f s : Bytes) (a l : List ℕ) where
  pub scan-start : mem f (listing s a l 0) ≡ false
  unfolding listing mem
  scan-start = refl

  pub scan-more : (i : ℕ) (b : Bool) → mem f (listing s a l i) ≡ false → b ≡ same f (name_at s a l i) → b ≡ false → mem f (listing s a l (i + 1)) ≡ false
  unfolding listing
  scan-more i b h e n = rw (add-one, mem-more f (name_at s a l i) (listing s a l i)) (or-false _ _ h (sym e ∙ n))

  pub all_seen : (i n : ℕ) → mem f (listing s a l i) ≡ false → i ≡ n → mem f (listing s a l n) ≡ false
  all_seen i n h e = subst (λ k. mem f (listing s a l k) ≡ false) e h

  -- what stands at an entry is listed
  pub listed : (i n : ℕ) → i < n → same f (name_at s a l i) ≡ true → mem f (listing s a l n) ≡ true
  unfolding listing
  listed i zero h e = absurd (omega arith)
  listed i (suc n) h e =
      rw (mem-more f (name_at s a l n) (listing s a l n))
      (⊎_elim (λ (q : i ≡ n). rw (subst (λ k. same f (name_at s a l k) ≡ true) q e) (or-true (mem f (listing s a l n)))) (λ k. rw (listed i n k e)) (eq-or-lt_of_le (omega arith)))

-- the names below an entry do not depend on it
pub listing-below : (s : Bytes) (a l : List ℕ) (k v w n : ℕ) → n ≤ k → listing s (set a k v) (set l k w) n ≡ listing s a l n
unfolding listing
listing-below s a l k v w zero h = refl
listing-below s a l k v w (suc n) h =
    let ne : n ≡ k → ⊥ = omega arith in
    rw (listing-below s a l k v w n (omega arith), get_or-set_other a k n v 0 ne, get_or-set_other l k n w 0 ne)

pub listing-long : (s : Bytes) (a l : List ℕ) (n : ℕ) → length (listing s a l n) ≡ n
unfolding listing
listing-long s a l zero = refl
listing-long s a l (suc n) = simp length-append (let h = listing-long s a l n in omega arith)

-- ---- looking for a name by the hints

-- no name of those hinted is this one
none-same : (f s : Bytes) (a l h : List ℕ) (n : ℕ) → HintedFrom 1 h (listing s a l n) → ((i : ℕ) → i < n → Leads h (i + 1) (place_of (name_at s a l i)) 2048 → same f (name_at s a l i) ≡ false) → mem f (listing s a l n) ≡ false
unfolding listing mem
none-same f s a l h zero q other = refl
none-same f s a l h (suc n) q other =
    let long = listing-long s a l n in
    let w = hinted-last h (name_at s a l n) (listing s a l n) 1 (n + 1) (omega arith) q in
    rw (mem-more f (name_at s a l n) (listing s a l n))
    (or-false _ _ (none-same f s a l h n w.0 (λ i k. other i (omega arith))) (other n (omega arith) w.1))

module _ (f s : Bytes) (a l h : List ℕ) (n : ℕ) where
  -- if the name is listed, its hint is among the k places from p on
  unfoldable pub Seeks : ℕ → ℕ → Type 0
  Seeks p k = (i : ℕ) → i < n → same f (name_at s a l i) ≡ true → Leads h (i + 1) (place_of f) 2048 → Leads h (i + 1) p k

  pub seek-start : (p : ℕ) → p ≡ place_of f → Seeks p 2048
  unfolding Seeks
  seek-start p e i k y q = rw e q

  -- a hint that leads to the name
  pub seek-here : (hint : ℕ) (b : Bool) → (hint ≡ 0 → ⊥) → (b ≡ true → hint ≤ n) → ((i : ℕ) → i < n → hint ≡ i + 1 → b ≡ same f (name_at s a l i)) → b ≡ true
      → (hint - 1 ≤ n) × (hint - 1 < n → same f (name_at s a l (hint - 1)) ≡ true) × (hint - 1 ≡ n → Hinted h (listing s a l n) → mem f (listing s a l n) ≡ false)
  seek-here hint b nz high is y =
      let j = high y in
      (omega arith, (λ k. sym (is (hint - 1) k (omega arith)) ∙ y), λ e. absurd (omega arith))

  module _ (p k : ℕ) (seeks : Seeks p k) (some : 0 < k) (hint : ℕ) (e : hint ≡ get_or h p 0) where
    -- the hint here leads to another name
    pub seek-on : (b : Bool) (r : ℕ) → ((i : ℕ) → i < n → hint ≡ i + 1 → b ≡ same f (name_at s a l i)) → b ≡ false → r ≡ after p → Seeks r (k - 1)
    unfolding Seeks
    seek-on b r is x o i j y q = rw o (leads-on h (i + 1) p k some (λ z. false≢true (sym x ∙ is i j (e ∙ z) ∙ y)) (seeks i j y q))

    -- an empty place: the name is new
    pub seek-end : hint ≡ 0 → Hinted h (listing s a l n) → mem f (listing s a l n) ≡ false
    unfolding Seeks Hinted
    seek-end z q = none-same f s a l h n q other
      where
        other : (i : ℕ) → i < n → Leads h (i + 1) (place_of (name_at s a l i)) 2048 → same f (name_at s a l i) ≡ false
        other i j w = go (same f (name_at s a l i)) refl
          where
            go : (b : Bool) → same f (name_at s a l i) ≡ b → b ≡ false
            go true y = absurd (leads-past h (i + 1) p k some (omega arith) (seeks i j y (rw (same-eq f (name_at s a l i) y) w)) (sym e ∙ z))
            go false y = refl

-- ---- putting a hint

module _ (h : List ℕ) (from : ℕ) where
  -- whatever grows out of the hints leads on from the start if it does so from p on, in k steps
  unfoldable pub Taken : ℕ → ℕ → Type 0
  Taken p k = (g : List ℕ) (v : ℕ) → Grows h g → Leads g v p k → Leads g v from 2048

  pub taken_start : Taken from 2048
  unfolding Taken
  taken_start g v gr q = q

  module _ (p k : ℕ) (taken : Taken p k) where
    pub taken-on : (r : ℕ) → 0 < k → (get_or h p 0 ≡ 0 → ⊥) → r ≡ after p → Taken r (k - 1)
    unfolding Taken
    taken-on r some nz e g v gr q = taken g v gr (leads-back g v p k some (λ z. nz (sym (gr.stays p nz) ∙ z)) (rw (← e) q))

    -- an empty place
    pub free-here : p < 2048 → get_or h p 0 ≡ 0 → Free h from p
    unfolding Taken
    free-here i z = record {
      here = λ l v e. (grows-set h p v z, taken (set h p v) v (grows-set h p v z) (leads-here (set h p v) v p k (get_or-set_same h p v 0 (omega arith))));
      none = λ l. absurd (omega arith);
    }

    -- no place is left
    pub free-none : k ≤ 0 → Free h from 2048
    unfolding Taken
    free-none z = record { here = λ l. absurd (omega arith); none = λ l v. (grows_same h, taken h v (grows_same h) (leads-none h v p k z)) }

-- ---- keeping a name

module _ (s f : Bytes) (a l h : List ℕ) (n : ℕ) (want : List Bytes) (holds : Holds s a l h n want) where
  -- no room
  pub keep-over : 1024 < n → Holds s a l h n (kept f want)
  keep-over k = record {
    entries = holds.entries;
    high = holds.high;
    fits = λ m. absurd (omega arith);
    hinted = λ m. absurd (omega arith);
    over = λ m. let q = holds.over k in let g = longer (mem f want) in omega arith;
  }
    where
      longer : (b : Bool) → length want ≤ length (cond b want (want ++ (f ∷ [])))
      longer true = omega arith
      longer false = simp length-append (omega arith)

  module _ (r : ℕ) (room : n ≤ 1024) where
    -- it is there
    pub keep_known : r < n → (r < n → same f (name_at s a l r) ≡ true) → Holds s a l h n (kept f want)
    keep_known k e =
        let m : mem f want ≡ true = rw (← holds.fits room) (listed f s a l r n k (e k)) in
        rw m holds

    -- it is new
    new : (r ≡ n → Hinted h (listing s a l n) → mem f (listing s a l n) ≡ false) → r ≤ n → n ≤ r → mem f want ≡ false
    new e i j =
        let q : r ≡ n = omega arith in
        let g : Hinted h (listing s a l n) = rw (holds.fits room) (holds.hinted room) in
        rw (← holds.fits room) (e q g)

    module _ (not_there : r ≡ n → Hinted h (listing s a l n) → mem f (listing s a l n) ≡ false) (low : r ≤ n) (high : n ≤ r) where
      pub keep-full : n ≡ 1024 → Holds s a l h 1025 (kept f want)
      keep-full e =
          let z : length (listing s a l n) ≡ length want = ap length (holds.fits room) in
          let y = listing-long s a l n in
          let g : 1024 < length (want ++ (f ∷ [])) = simp length-append (omega arith) in
          record {
            entries = holds.entries;
            high = omega arith;
            fits = λ m. absurd (omega arith);
            hinted = λ m. absurd (omega arith);
            over = λ m. rw (new not_there low high) g;
          }

      pub keep-new : (from size : ℕ) (g : List ℕ) → f ≡ piece from size s → (n ≡ 1024 → ⊥) → (length h ≡ 2048 → Grows h g × Leads g (n + 1) (place_of f) 2048) → Holds s (set a n from) (set l n size) g (n + 1) (kept f want)
      unfolding listing Hinted
      keep-new from size g e ne puts =
          let put = puts holds.entries.2 in
          let i : n < length a = let q = holds.entries.0 in omega arith in
          let j : n < length l = let q = holds.entries.1 in omega arith in
          let long : length want ≡ n = ap length (sym (holds.fits room)) ∙ listing-long s a l n in
          rw (new not_there low high)
          (record {
            entries = (rw (length-set a n from) holds.entries.0, rw (length-set l n size) holds.entries.1, put.0.size ∙ holds.entries.2);
            high = omega arith;
            fits = λ m. rw (add-one, listing-below s a l n from size n (omega arith), get_or-set_same a n from 0 i, get_or-set_same l n size 0 j, ← e) (ap (λ x. x ++ (f ∷ [])) (holds.fits room));
            hinted = λ m. hinted-more g f want 1 (n + 1) (omega arith) (hinted-grows h g 1 want put.0 (omega arith) (holds.hinted room)) put.1;
            over = λ m. absurd (omega arith);
          })

-- ---- the entry of a name that is kept

pub listing-at : (s : Bytes) (a l : List ℕ) (i n : ℕ) → i < n → get_or (listing s a l n) i [] ≡ name_at s a l i
unfolding listing
listing-at s a l i zero h = absurd (omega arith)
listing-at s a l i (suc n) h = ⊎_elim (λ (e : i ≡ n). rw e (last n (listing-long s a l n))) (λ k. get_d_front (listing s a l n) (name_at s a l n ∷ []) i (rw (listing-long s a l n) k) ∙ listing-at s a l i n k) (eq-or-lt_of_le (omega arith))
  where
    last : (k : ℕ) → length (listing s a l n) ≡ k → get_or (listing s a l n ++ (name_at s a l n ∷ [])) k [] ≡ name_at s a l n
    last k e = rw (← e) (get_or-behind (listing s a l n) (name_at s a l n))

module _ (s f : Bytes) (a l : List ℕ) (n : ℕ) where
  -- no room
  pub lists-over : 1024 < n → Lists s a l n a l n 0 f
  lists-over k = record {
    grows = omega arith;
    low = omega arith;
    tables = λ t. t;
    more = λ m. absurd (omega arith);
    inside = λ m. absurd (omega arith);
    here = λ m. absurd (omega arith);
  }

  pub lists-full : n ≡ 1024 → Lists s a l n a l 1025 0 f
  lists-full k = record {
    grows = omega arith;
    low = omega arith;
    tables = λ t. t;
    more = λ m. absurd (omega arith);
    inside = λ m. absurd (omega arith);
    here = λ m. absurd (omega arith);
  }

  -- it is there
  pub lists-known : (r : ℕ) → n ≤ 1024 → r < n → (r < n → same f (name_at s a l r) ≡ true) → Lists s a l n a l n r f
  lists-known r room k e = record {
    grows = omega arith;
    low = omega arith;
    tables = λ t. t;
    more = λ m t. ([], sym (append-nil (listing s a l n)));
    inside = λ m. k;
    here = λ m t. listing-at s a l r n k ∙ sym (same-eq f (name_at s a l r) (e k));
  }

  -- it is new
  pub lists-new : (from size : ℕ) → n ≤ 1024 → (n ≡ 1024 → ⊥) → f ≡ piece from size s → Lists s a l n (set a n from) (set l n size) (n + 1) n f
  unfolding listing
  lists-new from size room ne e = record {
    grows = omega arith;
    low = omega arith;
    tables = λ t. (rw (length-set a n from) t.0, rw (length-set l n size) t.1);
    more = λ m t. (name_at s (set a n from) (set l n size) n ∷ [], rw (add-one, listing-below s a l n from size n (omega arith)));
    inside = λ m. omega arith;
    here = λ m t. listing-at s (set a n from) (set l n size) n (n + 1) (omega arith) ∙ rw (get_or-set_same a n from 0 (let q = t.0 in omega arith), get_or-set_same l n size 0 (let q = t.1 in omega arith)) (sym e);
  }

-- ---- noting a field

pub note-var : (s a l h : List ℕ) (n : ℕ) (f : Bytes) (want : List Bytes) (b : Bool) → b ≡ is_var f → b ≡ true → Holds s a l h n (kept f want) → Holds s a l h n (notes (f ∷ []) want)
unfolding notes
note-var s a l h n f want b e t q = rw (sym e ∙ t) q

pub note-other : (s a l h : List ℕ) (n : ℕ) (f : Bytes) (want : List Bytes) (b : Bool) → b ≡ is_var f → b ≡ false → Holds s a l h n want → Holds s a l h n (notes (f ∷ []) want)
unfolding notes
note-other s a l h n f want b e t q = rw (sym e ∙ t) q

-- ---- for callers: a table that has room says how many names there are

pub holds-long : (s a l h : List ℕ) (n : ℕ) (want : List Bytes) → Holds s a l h n want → n ≤ 1024 → length want ≡ n
holds-long s a l h n want q k = ap length (sym (q.fits k)) ∙ listing-long s a l n

-- an empty table
pub holds-none : (s a l h : List ℕ) → length a ≡ 1024 → length l ≡ 1024 → length h ≡ 2048 → Holds s a l h 0 []
unfolding listing Hinted
holds-none s a l h x y z = record { entries = (x, y, z); high = omega arith; fits = λ k. refl; hinted = λ k. tt; over = λ k. absurd (omega arith) }
