-- Sums over lists, and the sum over the different elements of a list, each with its count. Assumes nothing.
use mathlib.Core.Path.{◌≡◌, refl, sym, ◌∙◌, ap, ap₂, subst, fun_ext}
use mathlib.Core.Bool.{Bool, true, false, cond, not, ◌&&◌, ◌||◌, false≢true}
use mathlib.Core.List.{List, [], ◌∷◌, ◌++◌, map}
use mathlib.Core.Option.{none, some}
use Prim.Native.Nat.{ℕ, ◌+◌, ◌*◌}
use native.Mathlib.Nat.{add-zero, zero-add, add_assoc, mul_comm, mul-one, mul-add, add-mul, zero-mul, mul-zero}
use native.Mathlib.Omega.{arith}
use Rattle.text.proofs.Basics.{same_refl, same-eq, and_left, and_right, and_both}
use Rattle.scoping.specs.Sets.{any, keep, each}
use Rattle.counting.specs.Bag.{when, once, total, tick, count}
use Rattle.counting.specs.Row.{Cell, same_cell, same_row}
use Rattle.counting.proofs.Every.{Every, done, more, every-imp}
use Rattle.scoping.proofs.Basics.{clash, both_ways}
use Rattle.counting.proofs.Basics.{keep-each}

-- ---- sums

pub total-cong : {A : Type 0} (f g : A → ℕ) (xs : List A) → ((x : A) → f x ≡ g x) → total f xs ≡ total g xs
total-cong f g xs h = ap (λ k. total k xs) (fun_ext h)

pub total-every : {A : Type 0} (f g : A → ℕ) {xs : List A} → Every (λ x. f x ≡ g x) xs → total f xs ≡ total g xs
unfolding total
total-every f g done = refl
total-every f g (more p r) = ap₂ ◌+◌ p (total-every f g r)

pub total-zero : {A : Type 0} (xs : List A) → total (λ x. 0) xs ≡ 0
unfolding total
total-zero [] = refl
total-zero (x ∷ xs) = ap (λ n. 0 + n) (total-zero xs)

pub total-append : {A : Type 0} (f : A → ℕ) (xs ys : List A) → total f (xs ++ ys) ≡ total f xs + total f ys
unfolding total
total-append f [] ys = sym (zero-add (total f ys))
total-append f (x ∷ xs) ys = ap (λ n. f x + n) (total-append f xs ys) ∙ sym (add_assoc (f x) (total f xs) (total f ys))

pub total-map : {A B : Type 0} (f : B → ℕ) (h : A → B) (xs : List A) → total f (map h xs) ≡ total (λ x. f (h x)) xs
unfolding total
total-map f h [] = refl
total-map f h (x ∷ xs) = ap (λ n. f (h x) + n) (total-map f h xs)

pub total-each : {A B : Type 0} (f : B → ℕ) (h : A → List B) (xs : List A) → total f (each h xs) ≡ total (λ x. total f (h x)) xs
unfolding total each
total-each f h [] = refl
total-each f h (x ∷ xs) = total-append f (h x) (each h xs) ∙ ap (λ n. total f (h x) + n) (total-each f h xs)

pub total-when : {A : Type 0} (f : A → ℕ) (c : Bool) (x : A) → total f (when c x) ≡ cond c (f x) 0
unfolding total when
total-when f true x = add-zero (f x)
total-when f false x = refl

pub total-keep : {A : Type 0} (f : A → ℕ) (c : A → Bool) (xs : List A) → total f (keep c xs) ≡ total (λ x. cond (c x) (f x) 0) xs
total-keep f c xs = ap (total f) (keep-each c xs) ∙ total-each f (λ x. when (c x) x) xs ∙ total-cong _ _ xs (λ x. total-when f (c x) x)

pub total-cond : {A : Type 0} (c : Bool) (f : A → ℕ) (xs : List A) → total (λ x. cond c (f x) 0) xs ≡ cond c (total f xs) 0
total-cond true f xs = refl
total-cond false f xs = total-zero xs

pub total-add : {A : Type 0} (f g : A → ℕ) (xs : List A) → total (λ x. f x + g x) xs ≡ total f xs + total g xs
unfolding total
total-add f g [] = refl
total-add f g (x ∷ xs) = let ih = total-add f g xs in omega arith

pub total-mul : {A : Type 0} (n : ℕ) (f : A → ℕ) (xs : List A) → total (λ x. n * f x) xs ≡ n * total f xs
unfolding total
total-mul n f [] = sym (mul-zero n)
total-mul n f (x ∷ xs) = ap (λ k. n * f x + k) (total-mul n f xs) ∙ sym (mul-add n (f x) (total f xs))

pub cond-tick : (c b : Bool) → cond c (tick b) 0 ≡ tick (c && b)
cond-tick true b = refl
cond-tick false b = refl

pub cond-zero : (c : Bool) → cond {A = ℕ} c 0 0 ≡ 0
cond-zero true = refl
cond-zero false = refl

-- ---- different elements

module _ {A : Type 0} (eq : A → A → Bool) (eq_self : (x : A) → eq x x ≡ true) (eq-path : (x y : A) → eq x y ≡ true → x ≡ y) where
  eq-true : (x y : A) → x ≡ y → eq x y ≡ true
  eq-true x y e = subst (λ z. eq x z ≡ true) e (eq_self x)

  eq_flip : (x y : A) → eq x y ≡ eq y x
  eq_flip x y = both_ways (eq x y) (eq y x) (λ e. eq-true y x (sym (eq-path x y e))) (λ e. eq-true x y (sym (eq-path y x e)))

  -- where only x counts, h may be read at x
  at-case : (h : A → ℕ → ℕ) → ((z : A) → h z 0 ≡ 0) → (x y : A) (c : Bool) → eq x y ≡ c → h y (tick c) ≡ h x (tick c)
  at-case h n x y true e = ap (λ z. h z 1) (sym (eq-path x y e))
  at-case h n x y false e = n y ∙ sym (n x)

  at_only : (h : A → ℕ → ℕ) → ((z : A) → h z 0 ≡ 0) → (x y : A) → h y (tick (eq x y)) ≡ h x (tick (eq x y))
  at_only h n x y = at-case h n x y (eq x y) refl

  pub count-keep : (y : A) (f : A → Bool) (xs : List A) → count eq y (keep f xs) ≡ cond (f y) (count eq y xs) 0
  unfolding count
  count-keep y f xs = total-keep (λ z. tick (eq y z)) f xs ∙ (total-cong _ _ xs (λ z. at_only (λ u n. cond (f u) n 0) (λ u. cond-zero (f u)) y z) ∙ total-cond (f y) (λ z. tick (eq y z)) xs)

  -- each element of a list stands once among the different ones
  count_head : (y x : A) (n : ℕ) (c : Bool) → eq y x ≡ c → (c ≡ false → n ≡ 1) → tick c + cond (not (eq x y)) n 0 ≡ 1
  count_head y x n true e h = ap (λ b. 1 + cond (not b) n 0) (eq_flip x y ∙ e)
  count_head y x n false e h = ap (λ b. 0 + cond (not b) n 0) (eq_flip x y ∙ e) ∙ (zero-add n ∙ h refl)

  count-once : (xs : List A) → Every (λ y. count eq y (once eq xs) ≡ 1) xs
  unfolding once count total
  count-once [] = done
  count-once (x ∷ xs) = more (one x (λ e. clash (eq_self x) e)) (every-imp (λ y h. one y (λ e. h)) (count-once xs))
    where
      one : (y : A) → (eq y x ≡ false → count eq y (once eq xs) ≡ 1) → tick (eq y x) + total (λ z. tick (eq y z)) (keep (λ z. not (eq x z)) (once eq xs)) ≡ 1
      one y h = ap (λ n. tick (eq y x) + n) (count-keep y (λ z. not (eq x z)) (once eq xs)) ∙ count_head y x (count eq y (once eq xs)) (eq y x) refl h

  -- an element stands once among the different ones if it stands in the list at all
  any_step : (y x : A) (n : ℕ) (b c : Bool) → eq y x ≡ c → n ≡ tick b → tick c + cond (not (eq x y)) n 0 ≡ tick (c || b)
  any_step y x n b true e h = ap (λ k. 1 + cond (not k) n 0) (eq_flip x y ∙ e)
  any_step y x n b false e h = ap (λ k. 0 + cond (not k) n 0) (eq_flip x y ∙ e) ∙ (zero-add n ∙ h)

  pub count-any : (y : A) (xs : List A) → count eq y (once eq xs) ≡ tick (any (eq y) xs)
  unfolding once count total any
  count-any y [] = refl
  count-any y (x ∷ xs) = ap (λ n. tick (eq y x) + n) (count-keep y (λ z. not (eq x z)) (once eq xs)) ∙ any_step y x (count eq y (once eq xs)) (any (eq y) xs) (eq y x) refl (count-any y xs)

  sum_over : (f : A → ℕ) (ds xs : List A) → Every (λ x. count eq x ds ≡ 1) xs → total (λ d. count eq d xs * f d) ds ≡ total f xs
  unfolding count total
  sum_over f ds [] done = total-cong _ _ ds (λ d. zero-mul (f d)) ∙ total-zero ds
  sum_over f ds (x ∷ xs) (more h r) =
      total-cong _ (λ d. f x * tick (eq x d) + count eq d xs * f d) ds (λ d. add-mul (tick (eq d x)) (count eq d xs) (f d) ∙ ap (λ n. n + count eq d xs * f d) (ap (λ c. tick c * f d) (eq_flip d x) ∙ (mul_comm (tick (eq x d)) (f d) ∙ at_only (λ u n. f u * n) (λ u. mul-zero (f u)) x d)))
      ∙ (total-add (λ d. f x * tick (eq x d)) (λ d. count eq d xs * f d) ds
      ∙ ap₂ ◌+◌ (total-mul (f x) (λ d. tick (eq x d)) ds ∙ (ap (λ n. f x * n) h ∙ mul-one (f x))) (sum_over f ds xs r))

  -- the sum over a list, element by element, is the sum over its different elements, each as often as it counts
  pub sum-once : (f : A → ℕ) (xs : List A) → total (λ x. count eq x xs * f x) (once eq xs) ≡ total f xs
  sum-once f xs = sum_over f (once eq xs) xs (count-once xs)

-- ---- rows of answers

pub same_cell-refl : (a : Cell) → same_cell a a ≡ true
unfolding same_cell
same_cell-refl none = refl
same_cell-refl (some a) = same_refl a

pub same_cell-eq : (a b : Cell) → same_cell a b ≡ true → a ≡ b
unfolding same_cell
same_cell-eq none none e = refl
same_cell-eq none (some b) e = absurd (false≢true e)
same_cell-eq (some a) none e = absurd (false≢true e)
same_cell-eq (some a) (some b) e = ap some (same-eq a b e)

pub same_row-refl : (a : List Cell) → same_row a a ≡ true
unfolding same_row
same_row-refl [] = refl
same_row-refl (x ∷ xs) = and_both (same_cell x x) (same_row xs xs) (same_cell-refl x) (same_row-refl xs)

pub same_row-eq : (a b : List Cell) → same_row a b ≡ true → a ≡ b
unfolding same_row
same_row-eq [] [] e = refl
same_row-eq [] (y ∷ ys) e = absurd (false≢true e)
same_row-eq (x ∷ xs) [] e = absurd (false≢true e)
same_row-eq (x ∷ xs) (y ∷ ys) e = ap₂ ◌∷◌ (same_cell-eq x y (and_left (same_cell x y) (same_row xs ys) e)) (same_row-eq xs ys (and_right (same_cell x y) (same_row xs ys) e))

-- the same for pairs of rows: the sum over the pairs of different rows, each as often as both count, is the sum over all pairs
pub sum-pairs : (t : List Cell → List Cell → Bool) (ls rs : List (List Cell)) → total (λ l. total (λ r. cond (t l r) (count same_row l ls * count same_row r rs) 0) (once same_row rs)) (once same_row ls) ≡ total (λ l. total (λ r. tick (t l r)) rs) ls
sum-pairs t ls rs = total-cong _ _ (once same_row ls) inner ∙ sum-once same_row same_row-refl same_row-eq (λ l. total (λ r. tick (t l r)) rs) ls
  where
    weigh : (c : Bool) (m n : ℕ) → cond c (m * n) 0 ≡ m * (n * tick c)
    weigh true m n = ap (λ k. m * k) (sym (mul-one n))
    weigh false m n = sym (mul-zero m) ∙ ap (λ k. m * k) (sym (mul-zero n))

    inner : (l : List Cell) → total (λ r. cond (t l r) (count same_row l ls * count same_row r rs) 0) (once same_row rs) ≡ count same_row l ls * total (λ r. tick (t l r)) rs
    inner l = total-cong _ _ (once same_row rs) (λ r. weigh (t l r) (count same_row l ls) (count same_row r rs)) ∙ (total-mul (count same_row l ls) (λ r. count same_row r rs * tick (t l r)) (once same_row rs) ∙ ap (λ n. count same_row l ls * n) (sum-once same_row same_row-refl same_row-eq (λ r. tick (t l r)) rs))
