-- What was noted stays while the table of names and the spots grow. Assumes nothing.
use Prim.Native.Nat.{ℕ, zero, suc, ◌+◌, ◌-◌, ◌≤◌, ◌<◌}
use mathlib.Core.Path.{◌≡◌, refl, sym, ◌∙◌, ap, subst}
use mathlib.Core.List.{List, [], ◌∷◌, ◌++◌, append_assoc, append-nil}
use mathlib.Core.Bool.{Bool, true, false, cond}
use mathlib.Core.Logic.{⊎_elim}
use native.Mathlib.Numerals.{add-one}
use native.Mathlib.Nat.{eq-or-lt_of_le}
use native.Mathlib.Omega.{arith}
use lib.ListN.{length, get_or, set, take, length-set, length-append, length-take}
use lib.Seq.{get_or-set_same, get_or-set_other, take-append_seam}
use lib.Dec.{eqb, leb}
use borrow.Author.Tests.{leb-true, ne_eqb}
use Rattle.text.specs.Text.{Bytes, piece}
use Rattle.text.specs.Field.{is_var}
use Rattle.text.proofs.Basics.{and_left}
use Rattle.scoping.specs.bridge.Spots.{Spot, spot}
use Rattle.names.specs.bridge.Names.{listing, Lists}
use Rattle.names.proofs.Laws.{get_d_front, listing-long}
use Rattle.lines.specs.bridge.Spotted.{mark_at, spot_at, spots_of, Spotted}
use Rattle.lines.specs.bridge.Stored.{Store, store, Keeps, Adds, Placed, one_spot}

-- ---- the array

-- the spots below an entry depend on what stands below it, and on names that stay
spots-below : (ns more : List Bytes) (a b : List (List ℕ)) (k : ℕ) → ((i : ℕ) → i < k → get_or b i [] ≡ get_or a i []) → ((i : ℕ) → i < k → get_or (get_or a i []) 1 0 < length ns) → spots_of (ns ++ more) b k ≡ spots_of ns a k
unfolding spots_of
spots-below ns more a b zero same low = refl
spots-below ns more a b (suc k) same low =
    rw (spots-below ns more a b k (λ i h. same i (omega arith)) (λ i h. low i (omega arith)), same k (omega arith), get_d_front ns more (get_or (get_or a k []) 1 0) (low k (omega arith)))

pub spots-long : (ns : List Bytes) (a : List (List ℕ)) (k : ℕ) → length (spots_of ns a k) ≡ k
unfolding spots_of
spots-long ns a zero = refl
spots-long ns a (suc k) = simp length-append (let h = spots-long ns a k in omega arith)

-- one more
spotted-put : (ns more : List Bytes) (a : List (List ℕ)) (k : ℕ) (xs : List Spot) (at e m : ℕ) → Spotted ns a k xs → k < length a → e < length (ns ++ more)
    → Spotted (ns ++ more) (set a k (at ∷ e ∷ m ∷ [])) (k + 1) (xs ++ (spot at (get_or (ns ++ more) e []) (mark_at m) ∷ []))
unfolding spots_of
spotted-put ns more a k xs at e m q room low = record {
  many = rw (length-set a k (at ∷ e ∷ m ∷ [])) (omega arith);
  are =
      let old : spots_of (ns ++ more) (set a k (at ∷ e ∷ m ∷ [])) k ≡ xs = spots-below ns more a (set a k (at ∷ e ∷ m ∷ [])) k (λ i h. get_or-set_other a k i (at ∷ e ∷ m ∷ []) [] (omega arith)) q.inside ∙ q.are in
      rw (add-one, old, get_or-set_same a k (at ∷ e ∷ m ∷ []) [] room);
  inside = λ i h. ⊎_elim
      (λ (z : i ≡ k). rw (z, get_or-set_same a k (at ∷ e ∷ m ∷ []) [] room) low)
      (λ (l : i < k). rw (get_or-set_other a k i (at ∷ e ∷ m ∷ []) [] (omega arith)) (let x = q.inside i l in let y = length-append ns more in omega arith))
      (eq-or-lt_of_le (omega arith));
}

-- of those, the first ones
spots-front : (ns : List Bytes) (a : List (List ℕ)) (k d : ℕ) → (t : List Spot) × (spots_of ns a (k + d) ≡ spots_of ns a k ++ t)
unfolding spots_of
spots-front ns a k zero = ([], let e : k + 0 ≡ k = omega arith in rw (e, append-nil (spots_of ns a k)))
spots-front ns a k (suc d) =
    let r = spots-front ns a k d in
    let e : k + suc d ≡ suc (k + d) = omega arith in
    (r.0 ++ (spot_at ns (get_or a (k + d) []) ∷ []), rw (e, r.1) (append_assoc (spots_of ns a k) r.0 (spot_at ns (get_or a (k + d) []) ∷ [])))

spotted-cut : (ns : List Bytes) (a : List (List ℕ)) (k j : ℕ) (xs ys : List Spot) → Spotted ns a j (xs ++ ys) → length xs ≡ k → Spotted ns a k xs
spotted-cut ns a k j xs ys q l =
    let n : k ≤ j = let x = ap length (sym q.are) ∙ spots-long ns a j in let y = length-append xs ys in omega arith in
    let r = spots-front ns a k (j - k) in
    let e : k + (j - k) ≡ j = omega arith in
    let all : spots_of ns a k ++ r.0 ≡ xs ++ ys = sym r.1 ∙ ap (spots_of ns a) e ∙ q.are in
    record {
      many = let m = q.many in omega arith;
      are = sym (take-append_seam (spots_of ns a k) r.0) ∙ ap (λ (i : ℕ). take i (spots_of ns a k ++ r.0)) (spots-long ns a k ∙ sym l) ∙ ap (take (length xs)) all ∙ take-append_seam xs ys;
      inside = λ i h. q.inside i (omega arith);
    }

-- ---- what is kept

pub keeps-at : (s : Bytes) (A : Store) (at to : ℕ) (xs : List Spot) → at ≤ to → to ≤ length s → Keeps s A at xs → Keeps s A to xs
keeps-at s A at to xs l h k = record { tables = k.tables; few = k.few; room = k.room; behind = let b = k.behind in omega arith; inside = h; spots = k.spots }

-- a line whose spots do not count
pub keeps_cut : (s : Bytes) (a l : List ℕ) (n : ℕ) (p : List (List ℕ)) (k : ℕ) (a' l' : List ℕ) (n' : ℕ) (p' : List (List ℕ)) (j at to : ℕ) (xs ys : List Spot) → at ≤ to
    → Keeps s (store a l n p k) at xs → Keeps s (store a' l' n' p' j) to (xs ++ ys) → Keeps s (store a' l' n' p' k) to xs
keeps_cut s a l n p k a' l' n' p' j at to xs ys low q r = record {
  tables = r.tables;
  few = r.few;
  room = r.room;
  behind = let b = q.behind in omega arith;
  inside = r.inside;
  spots = spotted-cut (listing s a' l' n') p' k j xs ys r.spots (ap length (sym q.spots.are) ∙ spots-long (listing s a l n) p k);
}

-- ---- steps

pub adds_none : (s : Bytes) (A : Store) (at to : ℕ) (all rest : List Spot) → at ≤ to → to ≤ length s → all ≡ rest → Adds s A at A to all rest
adds_none s A at to all rest l h e = record {
  grows = omega arith;
  on = λ r xs k. ([], sym e, subst (Keeps s A to) (sym (append-nil xs)) (keeps-at s A at to xs l h k));
}

pub adds_then : (s : Bytes) (A : Store) (at : ℕ) (B : Store) (mid : ℕ) (C : Store) (to : ℕ) (all some rest : List Spot) → Adds s A at B mid all some → Adds s B mid C to some rest → Adds s A at C to all rest
adds_then s A at B mid C to all some rest f g = record {
  grows = let x = f.grows in let y = g.grows in omega arith;
  on = λ r xs k.
      let u = f.on (let y = g.grows in omega arith) xs k in
      let v = g.on r (xs ++ u.0) u.2 in
      (u.0 ++ v.0, append_assoc u.0 v.0 rest ∙ ap (λ (zs : List Spot). u.0 ++ zs) v.1 ∙ u.1, subst (Keeps s C to) (append_assoc xs u.0 v.0) v.2);
}

-- what one field adds is what comes first
pub adds-front : (s : Bytes) (A : Store) (at : ℕ) (B : Store) (to to' : ℕ) (one all rest : List Spot) → to ≡ to' → all ≡ one ++ rest → Adds s A at B to one [] → Adds s A at B to' all rest
adds-front s A at B to to' one all rest t e f = record {
  grows = f.grows;
  on = λ r xs k.
      let u = f.on r xs k in
      (u.0, ap (λ (zs : List Spot). zs ++ rest) (sym (append-nil u.0) ∙ u.1) ∙ sym e, subst (λ (i : ℕ). Keeps s B i (xs ++ u.0)) t u.2);
}

pub adds-as : (s : Bytes) (A : Store) (at : ℕ) (B : Store) (to : ℕ) (all all' rest rest' : List Spot) → all ≡ all' → rest ≡ rest' → Adds s A at B to all rest → Adds s A at B to all' rest'
adds-as s A at B to all all' rest rest' e f h = subst (λ (ys : List Spot). Adds s A at B to all' ys) f (subst (λ (xs : List Spot). Adds s A at B to xs rest) e h)

-- ---- a field

pub placed-room : (a : List (List ℕ)) (k : ℕ) (e : List ℕ) → Placed a k e (set a k e) (k + 1)
placed-room a k e = record { put = λ h. (refl, refl) }

pub placed-none : (a : List (List ℕ)) (k : ℕ) (e : List ℕ) → length a ≤ k → Placed a k e a k
placed-none a k e h = record { put = λ l. absurd (omega arith) }

pub adds-other : (s : Bytes) (A : Store) (from size mark : ℕ) (b : Bool) → b ≡ is_var (piece from size s) → b ≡ false → from + size < length s → Adds s A from A (from + size + 1) (one_spot (mark_at mark) from (piece from size s)) []
adds-other s A from size mark b is f h = adds_none s A from (from + size + 1) _ [] (omega arith) (omega arith) (rw (sym is ∙ f))

var-long : (from size : ℕ) (s : Bytes) → is_var (piece from size s) ≡ true → 2 ≤ size
unfolding is_var
var-long from size s h =
    let l : 2 ≤ length (piece from size s) = leb-true 2 _ (and_left (leb 2 (length (piece from size s))) _ h) in
    let t : length (piece from size s) ≤ size = simp length-take (omega arith) in
    omega arith

pub adds-var : (s : Bytes) (a l : List ℕ) (n : ℕ) (p : List (List ℕ)) (k from size mark : ℕ) (a' l' : List ℕ) (m entry : ℕ) (p' : List (List ℕ)) (r : ℕ) (b : Bool)
    → b ≡ is_var (piece from size s) → b ≡ true → from + size < length s → Lists s a l n a' l' m entry (piece from size s) → Placed p k (from ∷ entry ∷ mark ∷ []) p' r
    → Adds s (store a l n p k) from (store a' l' m p' r) (from + size + 1) (one_spot (mark_at mark) from (piece from size s)) []
adds-var s a l n p k from size mark a' l' m entry p' r b is t h lists placed = record {
  grows = lists.grows;
  on = λ room xs q.
      let big : 2 ≤ size = var-long from size s (sym is ∙ t) in
      let low : k < length p = let x = q.behind in let y = q.room in omega arith in
      let put = placed.put low in
      let more = lists.more room q.tables in
      let long : length p' ≡ length p = ap length put.0 ∙ length-set p k (from ∷ entry ∷ mark ∷ []) in
      let into : entry < length (listing s a l n ++ more.0) = rw (← more.1, listing-long s a' l' m) (lists.inside room) in
      let name : get_or (listing s a l n ++ more.0) entry [] ≡ piece from size s = rw (← more.1) (lists.here room q.tables) in
      let new = spotted-put (listing s a l n) more.0 p k xs from entry mark q.spots low into in (
        spot from (piece from size s) (mark_at mark) ∷ [],
        rw (sym is ∙ t),
        record {
          tables = lists.tables q.tables;
          few = room;
          room = let y = q.room in rw long y;
          behind = let x = q.behind in let y = put.1 in omega arith;
          inside = omega arith;
          spots = rw (more.1, put.0, put.1, ← name) new;
        },
      );
}

-- ---- a line whose spots count or not

pub flag-on : (f a b : ℕ) → f ≡ 2 → a ≡ cond (eqb f 2) a b
flag-on f a b e = rw e

pub flag_off : (f a b : ℕ) → (f ≡ 2 → ⊥) → b ≡ cond (eqb f 2) a b
flag_off f a b h = rw (ne_eqb f 2 h)
