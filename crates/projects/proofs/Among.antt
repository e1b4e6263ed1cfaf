-- A name among the columns at positions, whether the columns are gone through one by one or the positions are. Assumes nothing.
use Prim.Native.Nat.{ℕ, zero, suc, ◌+◌, ◌≤◌, ◌<◌}
use mathlib.Core.Path.{◌≡◌, refl, sym, ap, ap₂, ◌∙◌}
use mathlib.Core.List.{List, [], ◌∷◌, map}
use mathlib.Core.Bool.{Bool, true, false, cond, ◌&&◌, ◌||◌, or-true, false≢true}
use native.Mathlib.Omega.{arith}
use lib.ListN.{length, get_or}
use lib.Dec.{eqb, ltb}
use borrow.Author.Tests.{eq-eqb, eqb-true, eqb-false, ltb-true}
use Rattle.text.specs.Text.{Bytes, same}
use Rattle.text.proofs.Basics.{and_left, and_right, same-eq, same_refl}
use Rattle.algebra.specs.Valid.{mem}
use Rattle.scoping.specs.Sets.{all, any, keep}
use Rattle.scoping.proofs.Sets.{and_none}
use Rattle.merging.specs.Names.{from, is_at}
use Rattle.columns.specs.bridge.Columns.{picked}
use Rattle.sides.specs.bridge.Side.{mask_at}
use Rattle.projects.proofs.Picks.{picked-positions}

-- a number is among those of a list
number_in : (i : ℕ) (ps : List ℕ) (g : ℕ → Bytes) → is_at i ps ≡ true → mem (g i) (map g ps) ≡ true
unfolding is_at any mem
number_in i [] g h = absurd (false≢true h)
number_in i (p ∷ ps) g h = go (eqb i p) refl h (λ k. number_in i ps g k)
  where
    go : (t : Bool) → eqb i p ≡ t → (t || is_at i ps) ≡ true → (is_at i ps ≡ true → mem (g i) (map g ps) ≡ true) → (same (g i) (g p) || mem (g i) (map g ps)) ≡ true
    go true e q r = ap (λ (j : ℕ). same (g i) (g j) || mem (g i) (map g ps)) (sym (eqb-true i p e)) ∙ ap (λ (b : Bool). b || mem (g i) (map g ps)) (same_refl (g i))
    go false e q r = ap (λ (b : Bool). same (g i) (g p) || b) (r q) ∙ or-true (same (g i) (g p))

-- a name at one of some numbers has a number
pub record Numbered (v : Bytes) (ps : List ℕ) (g : ℕ → Bytes) : Type 0 where
  pub number : ℕ
  pub among : is_at number ps ≡ true
  pub is : v ≡ g number

name-number : (v : Bytes) (ps : List ℕ) (g : ℕ → Bytes) → mem v (map g ps) ≡ true → Numbered v ps g
unfolding is_at any mem
name-number v [] g h = absurd (false≢true h)
name-number v (p ∷ ps) g h = go (same v (g p)) refl h (λ k. name-number v ps g k)
  where
    go : (t : Bool) → same v (g p) ≡ t → (t || mem v (map g ps)) ≡ true → (mem v (map g ps) ≡ true → Numbered v ps g) → Numbered v (p ∷ ps) g
    go true e q r = record { number = p; among = ap (λ (b : Bool). b || is_at p ps) (eq-eqb p p refl); is = same-eq v (g p) e }
    go false e q r = let k = r q in record { number = k.number; among = ap (λ (b : Bool). eqb k.number p || b) k.among ∙ or-true (eqb k.number p); is = k.is }

kept_at : (t : ℕ → Bool) (i n j : ℕ) → is_at i (keep t (from j n)) ≡ (t i && is_at i (from j n))
unfolding keep from is_at any
kept_at t i zero j = sym (and_none (t i))
kept_at t i (suc n) j = go (t j) refl (eqb i j) refl (kept_at t i n (suc j))
  where
    go : (b : Bool) → t j ≡ b → (c : Bool) → eqb i j ≡ c → is_at i (keep t (from (suc j) n)) ≡ (t i && is_at i (from (suc j) n))
        → is_at i (cond b (j ∷ keep t (from (suc j) n)) (keep t (from (suc j) n))) ≡ (t i && (c || is_at i (from (suc j) n)))
    go true e true q r = ap (λ (z : Bool). z || is_at i (keep t (from (suc j) n))) q ∙ sym (ap (λ (z : Bool). z && true) (ap t (eqb-true i j q) ∙ e))
    go true e false q r = ap (λ (z : Bool). z || is_at i (keep t (from (suc j) n))) q ∙ r
    go false e true q r = r ∙ ap (λ (z : Bool). z && is_at i (from (suc j) n)) (ap t (eqb-true i j q) ∙ e) ∙ sym (ap (λ (z : Bool). z && true) (ap t (eqb-true i j q) ∙ e))
    go false e false q r = r

in-range : (i n j : ℕ) → j ≤ i → i < j + n → is_at i (from j n) ≡ true
unfolding from is_at any
in-range i zero j a b = absurd (omega arith)
in-range i (suc n) j a b = go (eqb i j) refl (λ k. in-range i n (suc j) k (omega arith))
  where
    go : (t : Bool) → eqb i j ≡ t → (suc j ≤ i → is_at i (from (suc j) n) ≡ true) → (t || is_at i (from (suc j) n)) ≡ true
    go true e r = refl
    go false e r = r (let z = eqb-false i j e in omega arith)

below_at : (i n : ℕ) (ps : List ℕ) → all (λ p. ltb p n) ps ≡ true → is_at i ps ≡ true → i < n
unfolding all is_at any
below_at i n [] h k = absurd (false≢true k)
below_at i n (p ∷ ps) h k = go (eqb i p) refl k (λ q. below_at i n ps (and_right (ltb p n) (all (λ p. ltb p n) ps) h) q)
  where
    go : (t : Bool) → eqb i p ≡ t → (t || is_at i ps) ≡ true → (is_at i ps ≡ true → i < n) → i < n
    go true e q r = let z = eqb-true i p e in let y = ltb-true p n (and_left (ltb p n) (all (λ p. ltb p n) ps) h) in omega arith
    go false e q r = r q

both_ways : (a b : Bool) → (a ≡ true → b ≡ true) → (b ≡ true → a ≡ true) → a ≡ b
both_ways true b f g = sym (f refl)
both_ways false true f g = g refl
both_ways false false f g = refl

-- whether they are gone through by column or by list
pub picked-mem : (v : Bytes) (ps : List ℕ) (ds : List Bytes) → all (λ i. ltb i (length ds)) ps ≡ true → mem v (picked 1 (mask_at ps (length ds)) ds) ≡ mem v (map (λ i. get_or ds i []) ps)
picked-mem v ps ds h = ap (mem v) (picked-positions ps ds) ∙ both_ways _ _ there back
  where
    there : mem v (map (λ i. get_or ds i []) (keep (λ i. is_at i ps) (from 0 (length ds)))) ≡ true → mem v (map (λ i. get_or ds i []) ps) ≡ true
    there k =
        let x = name-number v (keep (λ i. is_at i ps) (from 0 (length ds))) (λ i. get_or ds i []) k in
        ap (λ (w : Bytes). mem w (map (λ i. get_or ds i []) ps)) x.is
        ∙ number_in x.number ps (λ i. get_or ds i []) (and_left (is_at x.number ps) (is_at x.number (from 0 (length ds))) (sym (kept_at (λ i. is_at i ps) x.number (length ds) 0) ∙ x.among))

    back : mem v (map (λ i. get_or ds i []) ps) ≡ true → mem v (map (λ i. get_or ds i []) (keep (λ i. is_at i ps) (from 0 (length ds)))) ≡ true
    back k =
        let x = name-number v ps (λ i. get_or ds i []) k in
        let l = below_at x.number (length ds) ps h x.among in
        ap (λ (w : Bytes). mem w (map (λ i. get_or ds i []) (keep (λ i. is_at i ps) (from 0 (length ds))))) x.is
        ∙ number_in x.number (keep (λ i. is_at i ps) (from 0 (length ds))) (λ i. get_or ds i [])
        (kept_at (λ i. is_at i ps) x.number (length ds) 0 ∙ ap₂ ◌&&◌ x.among (in-range x.number (length ds) 0 (omega arith) (omega arith)))
