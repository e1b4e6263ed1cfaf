-- Names of a list, none twice, that stand in another list take no more bytes than that list. Assumes nothing.
use Prim.Native.Nat.{suc, ◌+◌, ◌≤◌}
use mathlib.Core.Path.{◌≡◌, refl, sym, ap, ◌∙◌}
use mathlib.Core.Bool.{Bool, true, false, cond, not, ◌||◌, false≢true}
use mathlib.Core.List.{List, [], ◌∷◌}
use native.Mathlib.Omega.{arith}
use lib.ListN.{length}
use Rattle.text.specs.Text.{Bytes, same}
use Rattle.text.proofs.Basics.{same-eq, and_both}
use Rattle.algebra.specs.Valid.{mem}
use Rattle.algebra.proofs.Lines.{different-head, different-tail}
use Rattle.scoping.specs.bridge.Sets.{Once}
use Rattle.scoping.specs.Sets.{keep}
use Rattle.scoping.proofs.Sets.{mem-keep, not_same}
use Rattle.scoping.proofs.Basics.{mem-here, mem-there}
use Rattle.walking.proofs.Sizes.{width}

pub keep-width : (f : Bytes → Bool) (vs : List Bytes) → width (keep f vs) ≤ width vs
unfolding keep width
keep-width f [] = omega arith
keep-width f (v ∷ vs) = go (f v) (keep-width f vs)
  where
    go : (t : Bool) → width (keep f vs) ≤ width vs → width (cond t (v ∷ keep f vs) (keep f vs)) ≤ suc (length v) + width vs
    go true h = omega arith
    go false h = omega arith

-- all names but this
abbrev others : Bytes → List Bytes → List Bytes
others x ys = keep (λ y. not (same x y)) ys

others-width : (x : Bytes) (ys : List Bytes) → mem x ys ≡ true → suc (length x) + width (others x ys) ≤ width ys
unfolding keep width mem
others-width x [] h = absurd (false≢true h)
others-width x (y ∷ ys) h = go (same x y) refl (keep-width (λ z. not (same x z)) ys) (others-width x ys) h
  where
    go : (t : Bool) → same x y ≡ t → width (others x ys) ≤ width ys → (mem x ys ≡ true → suc (length x) + width (others x ys) ≤ width ys) → (t || mem x ys) ≡ true
        → suc (length x) + width (cond (not t) (y ∷ others x ys) (others x ys)) ≤ suc (length y) + width ys
    go true e k r m = omega (arith, ap length (same-eq x y e))
    go false e k r m = omega (arith, r m)

pub once-width : (xs ys : List Bytes) → Once xs → ((v : Bytes) → mem v xs ≡ true → mem v ys ≡ true) → width xs ≤ width ys
unfolding width
once-width [] ys o s = omega arith
once-width (x ∷ xs) ys o s =
    let h = others-width x ys (s x (mem-here x xs)) in
    let r = once-width xs (others x ys) (different-tail x xs o) (λ v m. mem-keep (λ y. not (same x y)) v ys ∙ and_both (not (same x v)) (mem v ys) (ap not (not_same x v (λ e. false≢true (sym (different-head x xs o) ∙ ap (λ (w : Bytes). mem w xs) e ∙ m)))) (s v (mem-there v x xs m))) in
    omega arith
