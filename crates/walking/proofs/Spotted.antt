-- Laws of the code that goes over noted variables, one for each way out. Assumes nothing.
use Prim.Native.Nat.{ℕ, zero, suc, ◌+◌, ◌-◌, ◌≤◌, ◌<◌}
use mathlib.Core.Path.{◌≡◌, refl, sym, ap, subst, ◌∙◌}
use mathlib.Core.Bool.{Bool, true, false}
use mathlib.Core.List.{List, [], ◌∷◌}
use native.Mathlib.Omega.{arith}
use native.Mathlib.Decide.{dec_lt}
use native.Mathlib.Numerals.{add-one}
use lib.ListN.{length, get_or, drop, drop_of_length-le}
use lib.Seq.{drop-cons}
use lib.Dec.{eqb}
use borrow.Author.Tests.{ne_eqb, eqb-true, eqb-false}
use Rattle.text.specs.Text.{Bytes, part, piece}
use Rattle.names.specs.bridge.Names.{name_at, listing}
use Rattle.names.proofs.Laws.{listing-long, listing-at}
use Rattle.emit.specs.bridge.Emit.{Em, puts}
use Rattle.emit.specs.declared.Writer.{Writer}
use Rattle.emit.specs.bridge.Writer.{Wrote}
use Rattle.emit.proofs.Laws.{puts-append}
use Rattle.emit.proofs.Writing.{wrote-as}
use Rattle.scoping.specs.bridge.Sets.{Once}
use Rattle.scoping.specs.Sets.{index_of}
use Rattle.scoping.proofs.Index.{index_at, mem-at}
use Rattle.scoping.specs.bridge.Places.{silent}
use Rattle.scoping.specs.bridge.Spots.{Spot, spot}
use Rattle.lines.specs.bridge.Spotted.{mark_at, spot_at, spots_of}
use Rattle.walking.specs.bridge.Walk.{flagged}
use Rattle.walking.specs.bridge.Rewritten.{rewritten, flag_spots, Stands}
use Rattle.walking.proofs.Stretches.{part-append, stands-lower, stands-high, copy_apart}
use Rattle.walking.proofs.Noted.{spots-long, spots-at}
use Rattle.naming.specs.bridge.New.{named, spelled, replacement}
use Rattle.naming.proofs.Settled.{spelled_none, spelled-piece}
use Rattle.walking.specs.bridge.Code.{renames, Inside, Stay, NextRenamed, Marked, Unmarked, NextMarked}
use Rattle.descending.specs.bridge.Renamed.{new_mark}
use Rattle.descending.proofs.Marks.{mark-stays, mark-becomes}

-- ---- marks

pub unmarked-none : (a : List (List ℕ)) (i : ℕ) → Unmarked a i i
unfolding Unmarked
unmarked-none a i = λ j h l. absurd (omega arith)

pub unmarked-more : (a : List (List ℕ)) (i j x : ℕ) → Unmarked a i j → x ≡ get_or (get_or a j []) 2 0 → (x ≡ 4 → ⊥) → Unmarked a i (j + 1)
unfolding Unmarked
unmarked-more a i j x h e z = λ q l m. go q l (dec_lt q j) m
  where
    go : (q : ℕ) → i ≤ q → Dec (q < j) → q < j + 1 → get_or (get_or a q []) 2 0 ≡ 4 → ⊥
    go q l (yes k) m = h q l k
    go q l (no k) m = let s : q ≡ j = omega arith in rw (s, ← e) z

pub next_here : (a : List (List ℕ)) (i k j x : ℕ) → (i ≤ j) × (j ≤ k) × Unmarked a i j → x ≡ get_or (get_or a j []) 2 0 → x ≡ 4 → NextMarked a i k j
next_here a i k j x (l, h, t) e n = record { low = l; high = h; before = t; here = λ m. sym e ∙ n }

pub next-none : (a : List (List ℕ)) (i k j : ℕ) → (i ≤ j) × (j ≤ k) × Unmarked a i j → k ≤ j → NextMarked a i k k
next-none a i k j (l, h, t) e = let q : j ≡ k = omega arith in record { low = omega arith; high = omega arith; before = subst (Unmarked a i) q t; here = λ m. absurd (omega arith) }

-- a marked name becomes another, and any other stays
marked-becomes : (sizes : List ℕ) (e : ℕ) → e < 1024 → new_mark sizes e ≡ 4 → get_or sizes e 0 ≡ 0 → ⊥
marked-becomes sizes e l h z = let q : 3 ≡ new_mark sizes e = mark-stays sizes e (get_or sizes e 0) l refl z in omega arith

unmarked-stays : (sizes : List ℕ) (e : ℕ) → e < 1024 → (new_mark sizes e ≡ 4 → ⊥) → get_or sizes e 0 ≡ 0
unmarked-stays sizes e l h = go (eqb (get_or sizes e 0) 0) refl
  where
    go : (t : Bool) → eqb (get_or sizes e 0) 0 ≡ t → get_or sizes e 0 ≡ 0
    go true q = eqb-true (get_or sizes e 0) 0 q
    go false q = absurd (h (sym (mark-becomes sizes e (get_or sizes e 0) l refl (eqb-false (get_or sizes e 0) 0 q))))

-- so the next marked one is the next that becomes another
pub next-is : (a : List (List ℕ)) (sizes : List ℕ) (n i k r : ℕ) → n ≤ 1024 → Inside n a k → Marked sizes a k → NextMarked a i k r → NextRenamed a sizes i k r
unfolding Stay Unmarked
next-is a sizes n i k r h x m t =
    let high = t.high in
    record {
      low = t.low;
      high = t.high;
      before = λ j l u. let y = x.each j (omega arith) in unmarked-stays sizes (get_or (get_or a j []) 1 0) (omega arith) (λ z. t.before j l u (m.mark j (omega arith) ∙ z));
      here = λ u z. let y = x.each r u in marked-becomes sizes (get_or (get_or a r []) 1 0) (omega arith) (sym (m.mark r u) ∙ t.here u) z;
    }

pub inside-at : (n : ℕ) (a : List (List ℕ)) (k j : ℕ) → Inside n a k → j < k → get_or (get_or a j []) 1 0 < n
inside-at n a k j x h = x.each j h

pub inside-more : (n : ℕ) (a : List (List ℕ)) (k : ℕ) → Inside n a k → n ≤ 1024 → Inside 1024 a k
inside-more n a k x h = record { many = x.many; each = λ i l. let y = x.each i l in omega arith }

-- ---- notes

-- what is left of the first k variables, from number j on
pub spots-left : (ns : List Bytes) (a : List (List ℕ)) (k j : ℕ) → j < k → drop j (spots_of ns a k) ≡ spot_at ns (get_or a j []) ∷ drop (j + 1) (spots_of ns a k)
spots-left ns a k j h =
    drop-cons (spots_of ns a k) j (spot 0 [] silent) (omega (arith, spots-long ns a k))
    ∙ ap (λ (x : Spot). x ∷ drop (suc j) (spots_of ns a k)) (spots-at ns a k j (spot 0 [] silent) h)
    ∙ ap (λ (n : ℕ). spot_at ns (get_or a j []) ∷ drop n (spots_of ns a k)) (sym (add-one j))

pub spots-over : (ns : List Bytes) (a : List (List ℕ)) (k j : ℕ) → k ≤ j → drop j (spots_of ns a k) ≡ []
spots-over ns a k j h = let l : length (spots_of ns a k) ≤ j = omega (arith, spots-long ns a k) in drop_of_length-le (spots_of ns a k) l

-- with j of the first k noted, noting the others does what noting all does
unfoldable pub Noting : List (List ℕ) → ℕ → List ℕ → ℕ → List ℕ → Type 0
Noting a k flags₀ j flags = (ns : List Bytes) → Once ns → Inside (length ns) a k → flag_spots ns (drop j (spots_of ns a k)) flags ≡ flag_spots ns (spots_of ns a k) flags₀

pub noting-none : (a : List (List ℕ)) (k : ℕ) (flags : List ℕ) → Noting a k flags 0 flags
unfolding Noting
noting-none a k flags = λ ns o i. refl

pub noting-next : (a : List (List ℕ)) (k j e m : ℕ) (flags₀ flags flags' : List ℕ) → Noting a k flags₀ j flags → j < k → e ≡ get_or (get_or a j []) 1 0 → m ≡ get_or (get_or a j []) 2 0 → flags' ≡ flagged (mark_at m) e flags → Noting a k flags₀ (j + 1) flags'
unfolding Noting flag_spots
noting-next a k j e m flags₀ flags flags' n h p q r = λ ns o i.
    let l : get_or (get_or a j []) 1 0 < length ns = i.each j h in
    let x : index_of (get_or ns (get_or (get_or a j []) 1 0) []) ns ≡ get_or (get_or a j []) 1 0 = index_at ns (get_or (get_or a j []) 1 0) o l in
    ap (flag_spots ns (drop (j + 1) (spots_of ns a k))) (r ∙ (λ t. flagged (mark_at (q t)) (p t) flags) ∙ (rw (mem-at ns (get_or (get_or a j []) 1 0) l, x)))
    ∙ sym (ap (λ (zs : List Spot). flag_spots ns zs flags) (spots-left ns a k j h))
    ∙ n ns o i

pub noting-all : (a : List (List ℕ)) (k j : ℕ) (flags₀ flags : List ℕ) → Noting a k flags₀ j flags → k ≤ j → (ns : List Bytes) → Once ns → Inside (length ns) a k → flags ≡ flag_spots ns (spots_of ns a k) flags₀
unfolding Noting flag_spots
noting-all a k j flags₀ flags n h ns o i = sym (ap (λ (zs : List Spot). flag_spots ns zs flags) (spots-over ns a k j h)) ∙ n ns o i

-- ---- pieces of a text

pub piece-size : (s : Bytes) (a b x y : ℕ) (f : Bytes) → x ≡ a → y ≡ b → f ≡ piece x y s → length f ≡ length (piece a b s)
piece-size s a b x y f p q e = ap length (e ∙ λ i. piece (p i) (q i) s)

-- a new name, generated or a piece of the pool
pub name-put : {u v : Writer} (s : Bytes) (a b : ℕ) → length s ≡ 0 → Wrote u v (named a b) → Wrote u v (spelled s a b)
name-put s a b h p = wrote-as (sym (spelled_none s a b h)) p

pub piece-put : {u v : Writer} (s : Bytes) (a b x y : ℕ) (f : Bytes) → (length s ≡ 0 → ⊥) → x ≡ a → y ≡ b → f ≡ piece x y s → Wrote u v f → Wrote u v (spelled s a b)
piece-put s a b x y f n p q h put = wrote-as (h ∙ (λ i. piece (p i) (q i) s) ∙ sym (spelled-piece s a b n)) put

-- ---- the text under new names

-- a variable whose name stays is copied with what follows it
stay-one : (new : Bytes → Bytes) (s : Bytes) (f to : ℕ) (x : Spot) (ys : List Spot) (e : Em) → Stands s f to (x ∷ ys) → new x.name ≡ x.name → Stands s f to ys × (rewritten new s ys f to e ≡ rewritten new s (x ∷ ys) f to e)
unfolding Stands rewritten
stay-one new s f to x ys e (a, b, c) h =
    let z : f ≤ x.at + length x.name = omega arith in
    let w : x.at ≤ x.at + length x.name = omega arith in (
      stands-lower s f (x.at + length x.name) to ys z c,
      copy_apart new s f (x.at + length x.name) to ys e z c
          ∙ ap (rewritten new s ys (x.at + length x.name) to)
          (ap (λ (l : Bytes). puts l e) (part-append s f x.at (x.at + length x.name) a w)
          ∙ puts-append (part f x.at s) (part x.at (x.at + length x.name) s) e
          ∙ ap (λ (l : Bytes). puts l (puts (part f x.at s) e)) (b ∙ sym h)),
    )

module _ (s : Bytes) (starts sizes : List ℕ) (n : ℕ) (pool : Bytes) (targets spans : List ℕ) (a : List (List ℕ)) (k : ℕ) where
  abbrev ns : List Bytes
  ns = listing s starts sizes n

  abbrev new : Bytes → Bytes
  new = renames s starts sizes n pool targets spans

  abbrev xs : List Spot
  xs = spots_of ns a k

  -- what is left of the variables makes of e what all make of e₀; the next one, if any, is renamed
  pub record Going (from to i : ℕ) (e₀ : Em) (j done : ℕ) (e : Em) : Type 0 where
    pub high : j ≤ k
    pub renamed : j < k → get_or spans (get_or (get_or a j []) 1 0) 0 ≡ 0 → ⊥
    pub stands : Stands s done to (drop j xs)
    pub rest : rewritten new s (drop j xs) done to e ≡ rewritten new s (drop i xs) from to e₀

  module _ (once : Once (listing s starts sizes n)) (inside : Inside n a k) where
    entry-is : (j : ℕ) → j < k → index_of (get_or ns (get_or (get_or a j []) 1 0) []) ns ≡ get_or (get_or a j []) 1 0
    entry-is j h = let l = inside.each j h in index_at ns (get_or (get_or a j []) 1 0) once (omega (arith, listing-long s starts sizes n))

    -- variables whose names stay, one after the other
    stay_all : (m j r f to : ℕ) (e : Em) → j + m ≡ r → r ≤ k → Stay a spans j r → Stands s f to (drop j xs) → Stands s f to (drop r xs) × (rewritten new s (drop r xs) f to e ≡ rewritten new s (drop j xs) f to e)
    unfolding Stay replacement
    stay_all zero j r f to e q h t d = let p : j ≡ r = omega arith in rw (sym p) (d, refl)
    stay_all (suc m) j r f to e q h t d =
        let l : j < k = omega arith in
        let p : drop j xs ≡ spot_at ns (get_or a j []) ∷ drop (j + 1) xs = spots-left ns a k j l in
        let z : get_or spans (get_or (get_or a j []) 1 0) 0 ≡ 0 = t j (omega arith) (omega arith) in
        let one = stay-one new s f to (spot_at ns (get_or a j [])) (drop (j + 1) xs) e (subst (Stands s f to) p d) (rw (entry-is j l, z)) in
        let more = stay_all m (j + 1) r f to e (omega arith) h (λ i u v. t i (omega arith) v) one.0 in
        (more.0, more.1 ∙ one.1 ∙ ap (λ (zs : List Spot). rewritten new s zs f to e) (sym p))

    pub going_on : (from to i j r done : ℕ) (e₀ e : Em) → Stands s done to (drop j xs) → rewritten new s (drop j xs) done to e ≡ rewritten new s (drop i xs) from to e₀ → NextRenamed a spans j k r → Going from to i e₀ r done e
    going_on from to i j r done e₀ e d q x =
        let l = x.low in
        let z : j + (r - j) ≡ r = omega arith in
        let w = stay_all (r - j) j r done to e z x.high x.before d in
        record { high = x.high; renamed = x.here; stands = w.0; rest = w.1 ∙ q }

    module _ (from to i j done : ℕ) (e₀ e : Em) (g : Going from to i e₀ j done e) where
      module _ (h : j < k) where
        here-is : Stands s done to (spot_at ns (get_or a j []) ∷ drop (j + 1) xs)
        here-is = subst (Stands s done to) (spots-left ns a k j h) g.stands

        name-is : get_or ns (get_or (get_or a j []) 1 0) [] ≡ name_at s starts sizes (get_or (get_or a j []) 1 0)
        name-is = listing-at s starts sizes (get_or (get_or a j []) 1 0) n (inside.each j h)

        -- where it stands
        pub going-places : (start entry size : ℕ) → start ≡ get_or (get_or a j []) 0 0 → entry ≡ get_or (get_or a j []) 1 0 → size ≡ length (name_at s starts sizes entry) → (done ≤ start) × (start + size ≤ to) × (to ≤ length s)
        unfolding Stands
        going-places start entry size p q z =
            let w = here-is in
            let a1 = w.0 in
            let v = stands-high s (get_or (get_or a j []) 0 0 + length (get_or ns (get_or (get_or a j []) 1 0) [])) to (drop (j + 1) xs) w.2 in
            let b1 = v.0 in
            let c1 : size ≡ length (get_or ns (get_or (get_or a j []) 1 0) []) = z ∙ ap (λ (x : ℕ). length (name_at s starts sizes x)) q ∙ ap length (sym name-is) in
            (omega arith, omega arith, v.1)

        pub going_next : (start entry size next r : ℕ) (e₁ e₂ : Em) → start ≡ get_or (get_or a j []) 0 0 → entry ≡ get_or (get_or a j []) 1 0 → size ≡ length (name_at s starts sizes entry)
            → e₁ ≡ puts (part done start s) e → e₂ ≡ puts (spelled pool (get_or targets entry 0) (get_or spans entry 0)) e₁ → NextRenamed a spans next k r → next ≡ j + 1 → Going from to i e₀ r (start + size) e₂
        unfolding Stands rewritten replacement
        going_next start entry size next r e₁ e₂ p q z u v x after =
            let m : start + size ≡ get_or (get_or a j []) 0 0 + length (get_or ns (get_or (get_or a j []) 1 0) []) =
            (λ t. p t + (z ∙ ap (λ (x : ℕ). length (name_at s starts sizes x)) q ∙ ap length (sym name-is)) t) in
            let w : new (get_or ns (get_or (get_or a j []) 1 0) []) ≡ spelled pool (get_or targets entry 0) (get_or spans entry 0) =
            rw (entry-is j h, ne_eqb (get_or spans (get_or (get_or a j []) 1 0) 0) 0 (g.renamed h), q) in
            going_on from to i (j + 1) r (start + size) e₀ e₂
            (subst (λ (y : ℕ). Stands s y to (drop (j + 1) xs)) (sym m) here-is.2)
            ((λ t. rewritten new s (drop (j + 1) xs) (m t) to ((v ∙ ap (puts (spelled pool (get_or targets entry 0) (get_or spans entry 0))) (u ∙ ap (λ (y : ℕ). puts (part done y s) e) p) ∙ ap (λ (l : Bytes). puts l (puts (part done (get_or (get_or a j []) 0 0) s) e)) (sym w)) t))
            ∙ ap (λ (zs : List Spot). rewritten new s zs done to e) (sym (spots-left ns a k j h))
            ∙ g.rest)
            (subst (λ (y : ℕ). NextRenamed a spans y k r) after x)

      -- the rest of the text
      pub going-high : (done ≤ to) × (to ≤ length s)
      going-high = stands-high s done to (drop j xs) g.stands

      pub going_end : (e' : Em) → k ≤ j → e' ≡ puts (part done to s) e → e' ≡ rewritten new s (drop i xs) from to e₀
      unfolding rewritten
      going_end e' h q = q ∙ ap (λ (zs : List Spot). rewritten new s zs done to e) (sym (spots-over ns a k j h)) ∙ g.rest
