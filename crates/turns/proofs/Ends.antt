-- A generated name ends in a digit, so never in "Label". Assumes nothing.
use mathlib.Core.Path.{◌≡◌, refl, sym, ap, ◌∙◌}
use mathlib.Core.Bool.{Bool, true, false}
use mathlib.Core.List.{[], ◌∷◌, ◌++◌}
use Prim.Native.Nat.{ℕ, suc, ◌+◌, ◌-◌, ◌/◌, ◌%◌, ◌<◌}
use native.Mathlib.Omega.{arith}
use native.Mathlib.Decide.{dec_lt}
use lib.Dec.{leb}
use lib.ListN.{length, take, drop, take-append-drop}
use Rattle.text.specs.Text.{Bytes, same}
use Rattle.text.specs.Field.{digits, decimal}
use Rattle.text.proofs.Basics.{same-eq, and_right}
use Rattle.text.proofs.Numbers.{digits-small, digits-big}
use Rattle.scoping.specs.Label.{label, is_label, generated}

-- the last of some bytes, d where there is none
last_or : ℕ → Bytes → ℕ
last_or d [] = d
last_or d (b ∷ bs) = last_or b bs

last-append : (d : ℕ) (xs : Bytes) (y : ℕ) (ys : Bytes) → last_or d (xs ++ (y ∷ ys)) ≡ last_or y ys
unfolding last_or
last-append d [] y ys = refl
last-append d (x ∷ xs) y ys = last-append x xs y ys

decimal-last : (d n : ℕ) → last_or d (decimal n) < 58
unfolding last_or decimal
decimal-last d n = go (dec_lt n 10)
  where
    go : Dec (n < 10) → last_or d (digits (suc n) n) < 58
    go (yes l) = omega (arith, ap (last_or d) (digits-small n n l))
    go (no l) = omega (arith, ap (last_or d) (digits-big n n (omega arith)) ∙ last-append d (digits n (n / 10)) (n % 10 + 48) [])

parts : (k : ℕ) (v : Bytes) → v ≡ take k v ++ drop k v
parts k v = sym (take-append-drop k v)

label-last : (v : Bytes) → is_label v ≡ true → last_or 0 v ≡ 108
unfolding last_or is_label
label-last v h =
    let e : drop (length v - 5) v ≡ label = same-eq (drop (length v - 5) v) label (and_right (leb 5 (length v)) (same (drop (length v - 5) v) label) h) in
    ap (last_or 0) (parts (length v - 5) v ∙ ap (λ (t : Bytes). take (length v - 5) v ++ t) e) ∙ last-append 0 (take (length v - 5) v) 76 (97 ∷ 98 ∷ 101 ∷ 108 ∷ [])

pub generated-plain : (p n : ℕ) → is_label (generated p n) ≡ false
unfolding generated last_or
generated-plain p n = go (is_label (generated p n)) refl
  where
    go : (t : Bool) → is_label (generated p n) ≡ t → t ≡ false
    go true e = absurd (omega (arith, label-last (63 ∷ p ∷ decimal n) e, decimal-last p n))
    go false e = refl
