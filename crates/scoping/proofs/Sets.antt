-- Laws of names and of lists of names read as sets. Assumes nothing.
use mathlib.Core.Path.{◌≡◌, refl, sym, ap, ◌∙◌}
use mathlib.Core.List.{List, [], ◌∷◌, ◌++◌}
use mathlib.Core.Bool.{Bool, true, false, cond, ◌||◌, ◌&&◌, or_assoc, or_comm, or-false, true≢false}
use Prim.Native.Nat.{ℕ}
use Rattle.text.specs.Text.{Bytes, same}
use Rattle.text.proofs.Basics.{same-eq, same_refl}
use Rattle.algebra.specs.Valid.{mem}
use Rattle.algebra.proofs.Lines.{different-head, different-tail, different-both}
use Rattle.scoping.specs.Sets.{Alike, keep}
use Rattle.scoping.specs.bridge.Sets.{Once}

pub and_none : (t : Bool) → (t && false) ≡ false
and_none true = refl
and_none false = refl

-- ---- names

pub eq-same : (a b : Bytes) → a ≡ b → same a b ≡ true
eq-same a b h = ap (same a) (sym h) ∙ same_refl a

pub differ : (a b : Bytes) → same a b ≡ false → a ≡ b → ⊥
differ a b h e = true≢false (sym (eq-same a b e) ∙ h)

pub not_same : (a b : Bytes) → (a ≡ b → ⊥) → same a b ≡ false
not_same a b h = go (same a b) refl
  where
    go : (t : Bool) → same a b ≡ t → same a b ≡ false
    go true e = absurd (h (same-eq a b e))
    go false e = e

pub same-sym : (a b : Bytes) → same a b ≡ same b a
same-sym a b = go (same b a) refl
  where
    go : (t : Bool) → same b a ≡ t → same a b ≡ t
    go true e = ap (same a) (same-eq b a e) ∙ same_refl a
    go false e = not_same a b (λ h. differ b a e (sym h))

-- ---- sets

pub mem-append : (v : Bytes) (xs ys : List Bytes) → mem v (xs ++ ys) ≡ (mem v xs || mem v ys)
unfolding mem
mem-append v [] ys = refl
mem-append v (x ∷ xs) ys = ap (λ (b : Bool). same v x || b) (mem-append v xs ys) ∙ sym (or_assoc (same v x) (mem v xs) (mem v ys))

pub alike-nil : (xs : List Bytes) → Alike (xs ++ []) xs
unfolding mem
alike-nil xs v = mem-append v xs [] ∙ or-false (mem v xs)

pub alike-swap : (xs ys : List Bytes) → Alike (xs ++ ys) (ys ++ xs)
alike-swap xs ys v = mem-append v xs ys ∙ or_comm (mem v xs) (mem v ys) ∙ sym (mem-append v ys xs)

pub swap_inner : (a b c d : Bool) → ((a || b) || (c || d)) ≡ ((a || c) || (b || d))
swap_inner true b c d = refl
swap_inner false true true d = refl
swap_inner false true false d = refl
swap_inner false false c d = refl

pub mem-keep : (f : Bytes → Bool) (v : Bytes) (vs : List Bytes) → mem v (keep f vs) ≡ (f v && mem v vs)
unfolding mem keep
mem-keep f v [] = sym (and_none (f v))
mem-keep f v (x ∷ vs) = go (f x) refl (same v x) refl (mem-keep f v vs)
  where
    off : mem v (keep f vs) ≡ (f v && mem v vs) → f v ≡ false → mem v (keep f vs) ≡ (f v && true)
    off h z = h ∙ ap (λ (b : Bool). b && mem v vs) z ∙ ap (λ (b : Bool). b && true) (sym z)

    go : (t : Bool) → f x ≡ t → (s : Bool) → same v x ≡ s → mem v (keep f vs) ≡ (f v && mem v vs)
        → mem v (cond t (x ∷ keep f vs) (keep f vs)) ≡ (f v && (s || mem v vs))
    go true e true k h = ap (λ (b : Bool). b || mem v (keep f vs)) k ∙ ap (λ (b : Bool). b && true) (sym (ap f (same-eq v x k) ∙ e))
    go true e false k h = ap (λ (b : Bool). b || mem v (keep f vs)) k ∙ h
    go false e true k h = off h (ap f (same-eq v x k) ∙ e)
    go false e false k h = h

pub once-keep : (f : Bytes → Bool) (vs : List Bytes) → Once vs → Once (keep f vs)
unfolding keep
once-keep f [] o = o
once-keep f (x ∷ vs) o = go (f x) (once-keep f vs (different-tail x vs o)) (mem-keep f x vs)
  where
    go : (t : Bool) → Once (keep f vs) → mem x (keep f vs) ≡ (f x && mem x vs) → Once (cond t (x ∷ keep f vs) (keep f vs))
    go true r e = different-both x (keep f vs) (e ∙ ap (λ (b : Bool). f x && b) (different-head x vs o) ∙ and_none (f x)) r
    go false r e = r
