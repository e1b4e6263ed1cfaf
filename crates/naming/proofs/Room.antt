-- The pushes and the names without one are never more than the names: 1,024 entries are enough. Assumes nothing.
use mathlib.Core.Path.{◌≡◌, refl, sym, ap, ◌∙◌}
use mathlib.Core.List.{List, [], ◌∷◌, ◌++◌}
use mathlib.Core.Bool.{Bool, true, false, cond, ◌||◌, or-true, false≢true}
use Prim.Native.Nat.{ℕ, suc, ◌≤◌, ◌<◌}
use native.Mathlib.Omega.{arith}
use lib.ListN.{length}
use Rattle.text.specs.Text.{Bytes, same}
use Rattle.text.proofs.Basics.{same-eq, same_refl}
use Rattle.algebra.specs.Valid.{mem}
use Rattle.scoping.specs.Label.{label, base}
use Rattle.scoping.specs.bridge.Pushes.{Push, a_push, contains, pushed, pushes}
use Rattle.naming.specs.bridge.Code.{fresh, Room}

-- a base that is there stays there
pub contains-more : (b : Bytes) (p : Push) (ps : List Push) → contains b ps ≡ true → contains b (p ∷ ps) ≡ true
unfolding contains
contains-more b p ps h =
    ap (λ (t : Bool). same b (p.base ++ label) || (same b p.base || t)) h
    ∙ ap (λ (t : Bool). same b (p.base ++ label) || t) (or-true (same b p.base))
    ∙ or-true (same b (p.base ++ label))

-- and one that was pushed is there
contains-here : (b : Bytes) (p c : ℕ) (ps : List Push) → contains b (a_push b p c ∷ ps) ≡ true
unfolding contains
contains-here b p c ps = ap (λ (t : Bool). same b (b ++ label) || (t || contains b ps)) (same_refl b) ∙ or-true (same b (b ++ label))

fresh-less : (p : Push) (ps : List Push) (vs : List Bytes) → fresh (p ∷ ps) vs ≤ fresh ps vs
unfolding fresh
fresh-less p ps [] = omega arith
fresh-less p ps (v ∷ vs) = go (contains (base v) ps) refl (contains (base v) (p ∷ ps)) refl (fresh-less p ps vs)
  where
    go : (t : Bool) → contains (base v) ps ≡ t → (u : Bool) → contains (base v) (p ∷ ps) ≡ u → fresh (p ∷ ps) vs ≤ fresh ps vs
        → cond u (fresh (p ∷ ps) vs) (suc (fresh (p ∷ ps) vs)) ≤ cond t (fresh ps vs) (suc (fresh ps vs))
    go true e true q h = h
    go true e false q h = absurd (false≢true (sym q ∙ contains-more (base v) p ps e))
    go false e true q h = omega arith
    go false e false q h = omega arith

-- a push for a name without one leaves fewer such names
fresh-push : (w : Bytes) (p c : ℕ) (ps : List Push) (vs : List Bytes) → mem w vs ≡ true → contains (base w) ps ≡ false → suc (fresh (a_push (base w) p c ∷ ps) vs) ≤ fresh ps vs
unfolding fresh mem
fresh-push w p c ps [] h n = absurd (false≢true h)
fresh-push w p c ps (v ∷ vs) h n = go (same w v) refl h (contains (base v) ps) refl (contains (base v) (a_push (base w) p c ∷ ps)) refl (fresh-less (a_push (base w) p c) ps vs) (λ m. fresh-push w p c ps vs m n)
  where
    go : (s : Bool) → same w v ≡ s → (s || mem w vs) ≡ true → (t : Bool) → contains (base v) ps ≡ t → (u : Bool) → contains (base v) (a_push (base w) p c ∷ ps) ≡ u
        → fresh (a_push (base w) p c ∷ ps) vs ≤ fresh ps vs → (mem w vs ≡ true → suc (fresh (a_push (base w) p c ∷ ps) vs) ≤ fresh ps vs)
        → suc (cond u (fresh (a_push (base w) p c ∷ ps) vs) (suc (fresh (a_push (base w) p c ∷ ps) vs))) ≤ cond t (fresh ps vs) (suc (fresh ps vs))
    go true e m true q u r less more = absurd (false≢true (sym n ∙ ap (λ (x : Bytes). contains (base x) ps) (same-eq w v e) ∙ q))
    go true e m false q true r less more = omega arith
    go true e m false q false r less more = absurd (false≢true (sym r ∙ ap (λ (x : Bytes). contains (base x) (a_push (base w) p c ∷ ps)) (sym (same-eq w v e)) ∙ contains-here (base w) p c ps))
    go false e m true q true r less more = more m
    go false e m true q false r less more = absurd (false≢true (sym r ∙ contains-more (base v) (a_push (base w) p c) ps q))
    go false e m false q true r less more = let x = more m in omega arith
    go false e m false q false r less more = let x = more m in omega arith

-- ---- room

-- no push at all
pub room-none : (ns : List Bytes) → Room [] ns
unfolding fresh contains
room-none [] = omega arith
room-none (v ∷ vs) = let h = room-none vs in omega arith

-- room for a push that is new
pub room-new : (w : Bytes) (ps : List Push) (ns : List Bytes) → mem w ns ≡ true → Room ps ns → contains (base w) ps ≡ false → length ps < length ns
room-new w ps ns m r n = omega (arith, fresh-push w 0 0 ps ns m n, r)

room-pushed : (p c : ℕ) (w : Bytes) (ps : List Push) (ns : List Bytes) → mem w ns ≡ true → Room ps ns → Room (pushed p c w ps) ns
unfolding pushed
room-pushed p c w ps ns m r = go (contains (base w) ps) refl
  where
    go : (t : Bool) → contains (base w) ps ≡ t → Room (cond t ps (a_push (base w) p c ∷ ps)) ns
    go true e = r
    go false e = omega (arith, fresh-push w p c ps ns m e, r)

-- all of these are names of the table
abbrev pub Among : List Bytes → List Bytes → Type 0
Among vs ns = (v : Bytes) → mem v vs ≡ true → mem v ns ≡ true

pub room-pushes : (p c : ℕ) (vs : List Bytes) (ps : List Push) (ns : List Bytes) → Among vs ns → Room ps ns → Room (pushes p c vs ps) ns
unfolding pushes mem
room-pushes p c [] ps ns a r = r
room-pushes p c (v ∷ vs) ps ns a r =
    room-pushes p (suc c) vs (pushed p c v ps) ns (λ x m. a x (ap (λ (t : Bool). same x v || t) m ∙ or-true (same x v)))
    (room-pushed p c v ps ns (a v (ap (λ (t : Bool). t || mem v vs) (same_refl v))) r)
