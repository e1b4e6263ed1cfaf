-- Laws of `same`, `split` and parts of a text. Assumes nothing.
use Prim.Native.Nat.{ℕ, zero, suc, ◌+◌, ◌-◌, ◌≤◌, ◌<◌, zero-le, suc-le-suc}
use mathlib.Core.Path.{◌≡◌, refl, sym, ◌∙◌, ap, ap₂, subst}
use mathlib.Core.List.{List, [], ◌∷◌}
use mathlib.Core.Bool.{Bool, true, false, cond, ◌&&◌}
use native.Mathlib.Nat.{le_of_suc-le-suc, not-suc-le-zero}
use native.Mathlib.Numerals.{add-one}
use native.Mathlib.Omega.{arith}
use lib.ListN.{length, get_or, take, drop, drop_of_length-le, length-drop, length-take}
use lib.Seq.{drop-cons, take_all, get_or-drop, drop-drop, take-take, take-nil, get_or-take}
use lib.Dec.{eqb}
use borrow.Author.Tests.{eq-eqb, ne_eqb}
use mathlib.Core.Logic.{◌⊎◌, inl, inr, ⊎_elim}
use native.Mathlib.Nat.{eq-or-lt_of_le, zero-sub, sub-zero}
use Rattle.text.specs.Text.{part, split, onto, same, First}

pub same-long : (f g : List ℕ) → (length f ≡ length g → ⊥) → same f g ≡ false
unfolding same
same-long [] [] h = absurd (h refl)
same-long [] (y ∷ ys) h = refl
same-long (x ∷ xs) [] h = refl
same-long (x ∷ xs) (y ∷ ys) h = rw (same-long xs ys (λ e. h (ap suc e))) (and_no (eqb x y))
  where
    and_no : (b : Bool) → (b && false) ≡ false
    and_no true = refl
    and_no false = refl

pub same_next : (f g : List ℕ) (i : ℕ) → i < length f → i < length g → same (drop i f) (drop i g) ≡ (eqb (get_or f i 0) (get_or g i 0) && same (drop (i + 1) f) (drop (i + 1) g))
unfolding same
same_next f g i h k = rw (add-one, drop-cons f i 0 h, drop-cons g i 0 k)

pub same_end : (f g : List ℕ) (i : ℕ) → length f ≤ i → length g ≤ i → same (drop i f) (drop i g) ≡ true
unfolding same
same_end f g i h k = rw (drop_of_length-le f h, drop_of_length-le g k)

pub split-first : (b : ℕ) (xs : List ℕ) (n : ℕ) → n < length xs → get_or xs n 0 ≡ b → ((k : ℕ) → k < n → get_or xs k 0 ≡ b → ⊥) → split b xs ≡ take n xs ∷ split b (drop (suc n) xs)
unfolding split onto
split-first b [] n h e f = absurd (not-suc-le-zero h)
split-first b (x ∷ xs) zero h e f = rw (eq-eqb x b e)
split-first b (x ∷ xs) (suc n) h e f =
    rw (ne_eqb x b (f 0 (suc-le-suc zero-le)), split-first b xs n (le_of_suc-le-suc h) e (λ k l. f (suc k) (suc-le-suc l)))

pub split-none : (b : ℕ) (xs : List ℕ) → ((k : ℕ) → k < length xs → get_or xs k 0 ≡ b → ⊥) → split b xs ≡ xs ∷ []
unfolding split onto
split-none b [] f = refl
split-none b (x ∷ xs) f = rw (ne_eqb x b (f 0 (suc-le-suc zero-le)), split-none b xs (λ k l. f (suc k) (suc-le-suc l)))

drop-take : (m n : ℕ) (l : List ℕ) → drop m (take n l) ≡ take (n - m) (drop m l)
drop-take zero n l = rw sub-zero
drop-take (suc m) zero l = rw zero-sub (nothing l)
  where
    nothing : (l : List ℕ) → ◌≡◌ {A = List ℕ} [] (take 0 (drop (suc m) l))
    nothing l = refl
drop-take (suc m) (suc n) [] = sym (take-nil (suc n - suc m))
drop-take (suc m) (suc n) (x ∷ xs) =
    let e : n - m ≡ suc n - suc m = omega arith in
    drop-take m n xs ∙ ap (λ (k : ℕ). take k (drop m xs)) e

module _ (s : List ℕ) (from to : ℕ) (fits : to ≤ length s) where
  part-long : length (part from to s) ≡ to - from
  part-long = simp (length-take, length-drop) (omega arith)

  part_at : (i : ℕ) → i < to - from → get_or (part from to s) i 0 ≡ get_or s (from + i) 0
  part_at i h = rw (get_or-take, get_or-drop)

-- the part up to the first b, and what follows it
pub split-here : (b : ℕ) (s : List ℕ) (from to r : ℕ) → to ≤ length s → First b s from to r → r < to → split b (part from to s) ≡ part from r s ∷ split b (part (r + 1) to s)
split-here b s from to r k f h =
    let l : from ≤ r = f.low in
    let e1 : from + (r - from) ≡ r = omega arith in
    let e2 : to - from - suc (r - from) ≡ to - (r + 1) = omega arith in
    let e3 : from + suc (r - from) ≡ r + 1 = omega arith in
    split-first b (part from to s) (r - from) (rw (part-long s from to k) (omega arith))
    (part_at s from to k (r - from) (omega arith) ∙ ap (λ (i : ℕ). get_or s i 0) e1 ∙ f.here h)
    (λ i j e. f.before (from + i) (omega arith) (omega arith) (sym (part_at s from to k i (omega arith)) ∙ e))
    ∙ ap₂ (λ (x y : List ℕ). x ∷ split b y)
    (take-take (r - from) (to - from) (drop from s) (omega arith))
    (drop-take (suc (r - from)) (to - from) (drop from s) ∙ ap₂ (λ (x : ℕ) (y : List ℕ). take x y) e2 (drop-drop (suc (r - from)) from s ∙ ap (λ (x : ℕ). drop x s) e3))

pub split-last : (b : ℕ) (s : List ℕ) (from to r : ℕ) → to ≤ length s → First b s from to r → r ≡ to → split b (part from to s) ≡ part from r s ∷ []
split-last b s from to r k f h =
    let l : from ≤ r = f.low in
    split-none b (part from to s)
    (λ i j e. let j' : i < to - from = rw (part-long s from to k) at j in f.before (from + i) (omega arith) (omega arith) (sym (part_at s from to k i j') ∙ e))
    ∙ ap (λ (x : ℕ). part from x s ∷ []) (sym h)
