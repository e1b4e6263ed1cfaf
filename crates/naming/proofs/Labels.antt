-- Laws of the suffix test and of the base, for the code's ways out. Assumes nothing.
use mathlib.Core.Path.{◌≡◌, refl, sym, ap, ◌∙◌}
use mathlib.Core.List.{◌++◌}
use mathlib.Core.Bool.{Bool, true, false, ◌&&◌}
use Prim.Native.Nat.{ℕ, ◌-◌, ◌≤◌, ◌<◌}
use native.Mathlib.Omega.{arith}
use lib.ListN.{length, take, drop, length-drop, length-append, take-append-drop}
use lib.Seq.{take_all, take_at}
use lib.Dec.{leb}
use borrow.Author.Tests.{le-leb, lt-leb, leb-true}
use Rattle.text.specs.Text.{Bytes, same}
use Rattle.text.proofs.Basics.{same-eq}
use Rattle.scoping.specs.Label.{label, is_label, base}
use Rattle.scoping.proofs.Sets.{not_same, eq-same}
use Rattle.scoping.proofs.Labels.{label-ends, base-plain, not-with-label}

pub label-short : (f : Bytes) → length f < 5 → false ≡ is_label f
unfolding is_label
label-short f h = sym (ap (λ (t : Bool). t && same (drop (length f - 5) f) label) (lt-leb 5 (length f) h))

label-long : (f : Bytes) → 5 ≤ length f → same (drop (length f - 5) f) label ≡ is_label f
unfolding is_label
label-long f h = sym (ap (λ (t : Bool). t && same (drop (length f - 5) f) label) (le-leb 5 (length f) h))

-- the last five bytes, as the code cuts them off
pub label-part : (f : Bytes) → 5 ≤ length f → same (take (length f - (length f - 5)) (drop (length f - 5) f)) label ≡ is_label f
label-part f h =
    ap (λ (l : Bytes). same l label) (take_all (length f - (length f - 5)) (drop (length f - 5) f) (omega (arith, length-drop (length f - 5) f)))
    ∙ label-long f h

pub label-five : (f : Bytes) → is_label f ≡ true → 5 ≤ length f
unfolding is_label
label-five f h = leb-true 5 (length f) (go (leb 5 (length f)) h)
  where
    go : (t : Bool) → (t && same (drop (length f - 5) f) label) ≡ true → t ≡ true
    go true e = refl
    go false e = e

label-end : (f : Bytes) → is_label f ≡ true → f ≡ take (length f - 5) f ++ label
label-end f h =
    sym (take-append-drop (length f - 5) f)
    ∙ ap (λ (l : Bytes). take (length f - 5) f ++ l) (same-eq (drop (length f - 5) f) label (label-long f (label-five f h) ∙ h))

-- ---- the base

pub base-labelled : (f : Bytes) → is_label f ≡ true → take (length f - 5) f ≡ base f
unfolding base
base-labelled f h = simp h

pub base-other : (f : Bytes) → is_label f ≡ false → take (length f) f ≡ base f
base-other f h = take_all (length f) f (omega arith) ∙ sym (base-plain f h)

pub base-label : (b : Bytes) → base (b ++ label) ≡ b
base-label b = sym (base-labelled (b ++ label) (label-ends b)) ∙ take_at b label (length (b ++ label) - 5) (omega (arith, length-append b label))

-- ---- a name against a base with "Label" behind it

false_same : (a b : Bytes) → same a b ≡ false → a ≡ b → ⊥
false_same a b h e = let x : same a b ≡ true = eq-same a b e in let z : ◌≡◌ {A = Bool} true false = sym x ∙ h in let y : ◌≡◌ {A = ℕ} 0 1 = cc in omega arith

label_same : (u b : Bytes) → same (u ++ label) (b ++ label) ≡ same u b
label_same u b = go (same u b) refl
  where
    go : (t : Bool) → same u b ≡ t → same (u ++ label) (b ++ label) ≡ t
    go true e = eq-same (u ++ label) (b ++ label) (ap (λ (n : Bytes). n ++ label) (same-eq u b e))
    go false e = not_same (u ++ label) (b ++ label) (λ x. false_same u b e (sym (base-label u) ∙ ap base x ∙ base-label b))

pub label_of : (f b : Bytes) → is_label f ≡ true → same (take (length f - 5) f) b ≡ same f (b ++ label)
label_of f b h = sym (ap (λ (n : Bytes). same n (b ++ label)) (label-end f h) ∙ label_same (take (length f - 5) f) b)

pub label-of-none : (f b : Bytes) → is_label f ≡ false → false ≡ same f (b ++ label)
label-of-none f b h = sym (not-with-label f b h)
