-- Laws of the loops over the join variables and over the table's flags, one for each turn and end. Assumes nothing.
use mathlib.Core.Path.{◌≡◌, refl, sym, ap, ap₂, ◌∙◌}
use mathlib.Core.List.{List, [], ◌∷◌, ◌++◌}
use mathlib.Core.Bool.{Bool, true, false, cond, ◌||◌, false≢true}
use Prim.Native.Nat.{ℕ, zero, suc, ◌+◌, ◌-◌, ◌≤◌, ◌<◌}
use native.Mathlib.Nat.{add-zero}
use native.Mathlib.Numerals.{add-one}
use native.Mathlib.Omega.{arith}
use lib.ListN.{length, drop, get_or, length-append, drop_of_length-le}
use lib.Seq.{drop-cons}
use lib.Dec.{eqb}
use borrow.Author.Tests.{eq-eqb, ne_eqb}
use Rattle.text.specs.Text.{Bytes, same}
use Rattle.text.proofs.Basics.{same_refl}
use Rattle.algebra.specs.Valid.{mem}
use Rattle.names.specs.bridge.Names.{name_at, listing}
use Rattle.names.proofs.Laws.{listing-long, listed}
use Rattle.names.proofs.Laws.{listing-at}
use Rattle.scoping.specs.Label.{base}
use Rattle.scoping.specs.bridge.Pushes.{Push, a_push, contains, pushed, pushes, all_pushes}
use Rattle.scoping.specs.bridge.Flagged.{chosen}
use Rattle.naming.specs.bridge.Code.{book, Room, numbered_by, names_at}
use Rattle.naming.proofs.Book.{book-long}
use Rattle.naming.proofs.Room.{Among, room-none, room-new, room-pushes}

-- ---- pushes of lists

pub pushes-none : (p c : ℕ) (us : List Bytes) (ps : List Push) → us ≡ [] → ps ≡ pushes p c us ps
unfolding pushes
pushes-none p c us ps e = sym (ap (λ (l : List Bytes). pushes p c l ps) e)

pub pushes-one : (p c : ℕ) (v : Bytes) (us : List Bytes) (ps : List Push) → us ≡ v ∷ [] → pushed p c v ps ≡ pushes p c us ps
unfolding pushes
pushes-one p c v us ps e = sym (ap (λ (l : List Bytes). pushes p c l ps) e)

pushes-append : (p c d : ℕ) (vs us : List Bytes) (ps : List Push) → d ≡ c + length vs → pushes p c (vs ++ us) ps ≡ pushes p d us (pushes p c vs ps)
unfolding pushes
pushes-append p c d [] us ps e = ap (λ (k : ℕ). pushes p k us ps) (omega arith)
pushes-append p c d (v ∷ vs) us ps e = pushes-append p (suc c) d vs us (pushed p c v ps) (omega arith)

-- the names in scope, then the hidden ones
pub both-flags : (p q c : ℕ) (flags : List ℕ) (ns : List Bytes) (ps qs rs : List Push) → qs ≡ pushes p 0 (chosen 0 flags ns) ps → q ≡ p → c ≡ 0 + length (chosen 0 flags ns)
    → rs ≡ pushes q c (chosen 1024 flags ns) qs → rs ≡ pushes p 0 (numbered_by flags ns) ps
unfolding numbered_by
both-flags p q c flags ns ps qs rs y o e z =
    z
    ∙ ap₂ (λ (d : ℕ) (xs : List Push). pushes d c (chosen 1024 flags ns) xs) o y
    ∙ sym (pushes-append p 0 c (chosen 0 flags ns) (chosen 1024 flags ns) ps e)

-- the join variables before them
pub all-pushes : (p : ℕ) (vs js : List Bytes) (ps qs : List Push) → ps ≡ pushes 106 0 js [] → qs ≡ pushes p 0 vs ps → qs ≡ all_pushes p vs js
unfolding all_pushes
all-pushes p vs js ps qs x y = y ∙ ap (pushes p 0 vs) x

-- ---- the join variables

pub joins-start : (s : Bytes) (a l js : List ℕ) (m : ℕ) (f e g z : List ℕ) → pushes 106 0 (names_at s a l js (m - 0) 0) (book s f e g z 0) ≡ pushes 106 0 (names_at s a l js m 0) []
unfolding book
joins-start s a l js m f e g z = ap (λ (c : ℕ). pushes 106 0 (names_at s a l js c 0) []) (omega arith)

module _ (s : Bytes) (a l js : List ℕ) (m i : ℕ) (ps : List Push) where
  pub joins-next : (k : ℕ) (qs : List Push) → i < m → k ≡ get_or js i 0 → qs ≡ pushed 106 i (name_at s a l k) ps
      → pushes 106 (i + 1) (names_at s a l js (m - (i + 1)) (i + 1)) qs ≡ pushes 106 i (names_at s a l js (m - i) i) ps
  unfolding pushes names_at
  joins-next k qs h e q =
      let less : m - i ≡ suc (m - suc i) = omega arith in
      rw (q, e, add-one) (sym (ap (λ (c : ℕ). pushes 106 i (names_at s a l js c i) ps) less))

  pub joins-done : m ≤ i → ps ≡ pushes 106 i (names_at s a l js (m - i) i) ps
  unfolding pushes names_at
  joins-done h = let none : m - i ≡ 0 = omega arith in sym (ap (λ (c : ℕ). pushes 106 i (names_at s a l js c i) ps) none)

-- they are names of the table
names-among : (s : Bytes) (a l : List ℕ) (n : ℕ) (js : List ℕ) (c i : ℕ) → ((k : ℕ) → k < i + c → get_or js k 0 < n) → Among (names_at s a l js c i) (listing s a l n)
unfolding names_at mem
names-among s a l n js zero i h v m = absurd (false≢true m)
names-among s a l n js (suc c) i h v m = go (same v (name_at s a l (get_or js i 0))) refl m (names-among s a l n js c (suc i) (λ k b. h k (omega arith)) v)
  where
    go : (t : Bool) → same v (name_at s a l (get_or js i 0)) ≡ t → (t || mem v (names_at s a l js c (suc i))) ≡ true
        → (mem v (names_at s a l js c (suc i)) ≡ true → mem v (listing s a l n) ≡ true) → mem v (listing s a l n) ≡ true
    go true e x r = listed v s a l (get_or js i 0) n (h i (omega arith)) e
    go false e x r = r x

pub room-joins : (s : Bytes) (a l js : List ℕ) (n m : ℕ) (ps : List Push) → ((i : ℕ) → i < m → get_or js i 0 < n) → ps ≡ pushes 106 0 (names_at s a l js m 0) [] → Room ps (listing s a l n)
room-joins s a l js n m ps below e =
    rw e (room-pushes 106 0 (names_at s a l js m 0) [] (listing s a l n) (names-among s a l n js m 0 (λ k h. below k (omega arith))) (room-none (listing s a l n)))

-- one push more at most
pushed-few : (p c : ℕ) (v : Bytes) (ps : List Push) → length (pushed p c v ps) ≤ suc (length ps)
unfolding pushed
pushed-few p c v ps = go (contains (base v) ps)
  where
    go : (t : Bool) → length (cond t ps (a_push (base v) p c ∷ ps)) ≤ suc (length ps)
    go true = omega arith
    go false = omega arith

pub push-few : (s : Bytes) (f e g z f' e' g' z' : List ℕ) (m r p c : ℕ) (v : Bytes) → book s f' e' g' z' r ≡ pushed p c v (book s f e g z m) → r ≤ m + 1
push-few s f e g z f' e' g' z' m r p c v h =
    omega (arith, ap length h, pushed-few p c v (book s f e g z m), book-long s f e g z m, book-long s f' e' g' z' r)

-- ---- the names by their flags

-- one flag
pub one_none : (flag : ℕ) (v : Bytes) → flag ≡ 0 → cond (eqb flag 0) [] (v ∷ []) ≡ []
one_none flag v h = ap (λ (t : Bool). cond t [] (v ∷ [])) (eq-eqb flag 0 h)

pub one-some : (flag : ℕ) (v : Bytes) → (flag ≡ 0 → ⊥) → cond (eqb flag 0) [] (v ∷ []) ≡ v ∷ []
one-some flag v h = ap (λ (t : Bool). cond t [] (v ∷ [])) (ne_eqb flag 0 h)

chosen-cons : (k : ℕ) (flags : List ℕ) (f : Bytes) (fs : List Bytes) → chosen k flags (f ∷ fs) ≡ cond (eqb (get_or flags k 0) 0) [] (f ∷ []) ++ chosen (suc k) flags fs
unfolding chosen
chosen-cons k flags f fs = go (eqb (get_or flags k 0) 0)
  where
    go : (b : Bool) → cond b (chosen (suc k) flags fs) (f ∷ chosen (suc k) flags fs) ≡ cond b [] (f ∷ []) ++ chosen (suc k) flags fs
    go true = refl
    go false = refl

module _ (s : Bytes) (a l flags : List ℕ) (at n k : ℕ) (h : k < n) where
  abbrev one : List Bytes
  one = cond (eqb (get_or flags (at + k) 0) 0) [] (name_at s a l k ∷ [])

  abbrev rest : List Bytes
  rest = chosen (at + (k + 1)) flags (drop (k + 1) (listing s a l n))

  chosen-next : chosen (at + k) flags (drop k (listing s a l n)) ≡ one ++ rest
  chosen-next =
      let long = listing-long s a l n in
      let step : at + (k + 1) ≡ suc (at + k) = omega arith in
      rw (step, add-one k)
      (ap (chosen (at + k) flags) (drop-cons (listing s a l n) k [] (omega arith))
      ∙ chosen-cons (at + k) flags (get_or (listing s a l n) k []) (drop (suc k) (listing s a l n))
      ∙ ap (λ (f : Bytes). cond (eqb (get_or flags (at + k) 0) 0) [] (f ∷ []) ++ chosen (suc (at + k)) flags (drop (suc k) (listing s a l n))) (listing-at s a l k n h))

-- the names before entry k are pushed, from the pushes ps₀ and the number c₀ on: what is left does what the whole does
pub record PushedTo (s : Bytes) (a l flags : List ℕ) (at n p c₀ : ℕ) (ps₀ ps : List Push) (c k : ℕ) : Type 0 where
  pub low : k ≤ n
  pub few : c ≤ c₀ + k
  pub room : Room ps (listing s a l n)
  pub does : pushes p c (chosen (at + k) flags (drop k (listing s a l n))) ps ≡ pushes p c₀ (chosen at flags (listing s a l n)) ps₀
  pub counts : c + length (chosen (at + k) flags (drop k (listing s a l n))) ≡ c₀ + length (chosen at flags (listing s a l n))

module _ (s : Bytes) (a l flags : List ℕ) (at n p c₀ : ℕ) (ps₀ : List Push) where
  pub flags-start : Room ps₀ (listing s a l n) → PushedTo s a l flags at n p c₀ ps₀ ps₀ c₀ 0
  flags-start r =
      let z : chosen (at + 0) flags (listing s a l n) ≡ chosen at flags (listing s a l n) = ap (λ (k : ℕ). chosen k flags (listing s a l n)) (add-zero at) in
      record { low = omega arith; few = omega arith; room = r; does = ap (λ (x : List Bytes). pushes p c₀ x ps₀) z; counts = ap (λ (x : List Bytes). c₀ + length x) z }

  module _ (ps : List Push) (c k : ℕ) (to : PushedTo s a l flags at n p c₀ ps₀ ps c k) where
    pub flags-next : (qs : List Push) (q d : ℕ) (h : k < n) → q ≡ p → qs ≡ pushes q c (one s a l flags at n k h) ps → d ≡ c + length (one s a l flags at n k h) → PushedTo s a l flags at n p c₀ ps₀ qs d (k + 1)
    unfolding mem
    flags-next qs q d h e made counts =
        let step = chosen-next s a l flags at n k h in
        let does : qs ≡ pushes p c (one s a l flags at n k h) ps = made ∙ ap (λ (x : ℕ). pushes x c (one s a l flags at n k h) ps) e in
        record {
          low = omega arith;
          few = grows (eqb (get_or flags (at + k) 0) 0) counts;
          room = rw does (room-pushes p c (one s a l flags at n k h) ps (listing s a l n) (among (eqb (get_or flags (at + k) 0) 0)) to.room);
          does = ap (pushes p d (rest s a l flags at n k h)) does
              ∙ sym (pushes-append p c d (one s a l flags at n k h) (rest s a l flags at n k h) ps counts)
              ∙ ap (λ (x : List Bytes). pushes p c x ps) (sym step)
              ∙ to.does;
          counts = let t = to.counts in omega (arith, counts, t, ap length step, length-append (one s a l flags at n k h) (rest s a l flags at n k h));
        }
      where
        grows : (t : Bool) → d ≡ c + length (cond t [] (name_at s a l k ∷ [])) → d ≤ c₀ + (k + 1)
        grows true e = let f = to.few in omega arith
        grows false e = let f = to.few in omega arith

        only : (v : Bytes) (t : Bool) → same v (name_at s a l k) ≡ t → (t || false) ≡ true → mem v (listing s a l n) ≡ true
        only v true e m = listed v s a l k n h e
        only v false e m = absurd (false≢true m)

        among : (t : Bool) → Among (cond t [] (name_at s a l k ∷ [])) (listing s a l n)
        among true v m = absurd (false≢true m)
        among false v m = only v (same v (name_at s a l k)) refl m

    pub flags-done : n ≤ k → (ps ≡ pushes p c₀ (chosen at flags (listing s a l n)) ps₀) × (c ≡ c₀ + length (chosen at flags (listing s a l n))) × (c ≤ c₀ + n) × Room ps (listing s a l n)
    unfolding chosen
    flags-done h =
        let less : length (listing s a l n) ≤ k = omega (arith, listing-long s a l n, h) in
        let end : chosen (at + k) flags (drop k (listing s a l n)) ≡ [] = ap (chosen (at + k) flags) (drop_of_length-le (listing s a l n) less) in
        let f = to.few in
        let b = to.low in
        let t = to.counts in
        (pushes-none p c (chosen (at + k) flags (drop k (listing s a l n))) ps end ∙ to.does, omega (arith, ap length end, t), omega arith, to.room)

-- a push that is new has room
pub flag-room : (s : Bytes) (a l : List ℕ) (n k : ℕ) (f e g z : List ℕ) (m : ℕ) → k < n → n ≤ 1024 → Room (book s f e g z m) (listing s a l n) → contains (base (name_at s a l k)) (book s f e g z m) ≡ false → m < 1024
flag-room s a l n k f e g z m h few r c =
    let named = listed (name_at s a l k) s a l k n h (same_refl (name_at s a l k)) in
    omega (arith, few, room-new (name_at s a l k) (book s f e g z m) (listing s a l n) named r c, book-long s f e g z m, listing-long s a l n)
