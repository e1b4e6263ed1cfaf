-- Entries made from the entries of one table or two are the rows made from their rows. Assumes nothing.
use mathlib.Core.Path.{◌≡◌, refl, sym, ◌∙◌, ap, ap₂}
use mathlib.Core.Bool.{Bool, true, false, cond, not, ◌||◌}
use mathlib.Core.List.{List, [], ◌∷◌, ◌++◌, map}
use Prim.Native.Nat.{ℕ, zero, suc, ◌+◌, ◌*◌, ◌<◌}
use native.Mathlib.Nat.{add-zero, mul-one, one-mul, mul-add, mul-zero, mul_assoc}
use native.Mathlib.Omega.{arith}
use Rattle.scoping.specs.Sets.{any, each}
use Rattle.counting.specs.Bag.{when, total}
use Rattle.counting.specs.Answer.{or_else}
use Rattle.counting.proofs.Every.{done, more, every_map, every-each, every-when, every-all}
use Rattle.counting.proofs.Sums.{total-cong, total-append, total-map, total-each, total-when, total-mul}
use Rattle.evaluating.specs.bridge.Table.{Entry, entry, Table, weigh}
use Rattle.evaluating.proofs.Bags.{Positive, Bag, Holds, holds-any}

-- what an entry adds to a sum
abbrev share : (List ℕ → ℕ) → Entry → ℕ
share f e = e.count * f e.cells

inside : (n : ℕ) (b : Bool) (m : ℕ) → cond b (n * m) 0 ≡ n * cond b m 0
inside n true m = refl
inside n false m = sym (mul-zero n)

product-positive : (m n : ℕ) → 0 < m → 0 < n → 0 < m * n
product-positive zero n h k = absurd (omega arith)
product-positive (suc m) zero h k = absurd (omega arith)
product-positive (suc m) (suc n) h k = let e = mul-add (suc m) n 1 in let f = mul-one (suc m) in omega arith

-- ---- pairs

module _ (T : List ℕ → List ℕ → Bool) (M : List ℕ → List ℕ → List ℕ) where
  unfoldable pub pair_entries : Entry → Table → List Entry
  pair_entries e t = each (λ f. when (T e.cells f.cells) (entry (M e.cells f.cells) (e.count * f.count))) t

  unfoldable pub pair_rows : List ℕ → List (List ℕ) → List (List ℕ)
  pair_rows x ys = each (λ y. when (T x y) (M x y)) ys

  entries-sum : (f : List ℕ → ℕ) (e : Entry) (t : Table) (ys : List (List ℕ)) → Bag t ys → total (share f) (pair_entries e t) ≡ e.count * total f (pair_rows e.cells ys)
  unfolding weigh pair_entries pair_rows
  entries-sum f e t ys b =
      total-each (share f) (λ d. when (T e.cells d.cells) (entry (M e.cells d.cells) (e.count * d.count))) t
      ∙ (total-cong _ (λ d. e.count * (d.count * cond (T e.cells d.cells) (f (M e.cells d.cells)) 0)) t (λ d.
      total-when (share f) (T e.cells d.cells) (entry (M e.cells d.cells) (e.count * d.count))
      ∙ (inside (e.count * d.count) (T e.cells d.cells) (f (M e.cells d.cells)) ∙ mul_assoc e.count d.count (cond (T e.cells d.cells) (f (M e.cells d.cells)) 0)))
      ∙ (total-mul e.count (λ d. d.count * cond (T e.cells d.cells) (f (M e.cells d.cells)) 0) t
      ∙ ap (λ n. e.count * n) (b (λ y. cond (T e.cells y) (f (M e.cells y)) 0)
      ∙ sym (total-each f (λ y. when (T e.cells y) (M e.cells y)) ys ∙ total-cong _ _ ys (λ y. total-when f (T e.cells y) (M e.cells y))))))

  pub bag-join : (s t : Table) (xs ys : List (List ℕ)) → Bag s xs → Bag t ys → Bag (each (λ e. pair_entries e t) s) (each (λ x. pair_rows x ys) xs)
  unfolding weigh
  bag-join s t xs ys a b f =
      total-each (share f) (λ e. pair_entries e t) s
      ∙ (total-cong _ _ s (λ e. entries-sum f e t ys b)
      ∙ (a (λ x. total f (pair_rows x ys)) ∙ sym (total-each f (λ x. pair_rows x ys) xs)))

  pairs-positive : (e : Entry) (t : Table) → 0 < e.count → Positive t → Positive (pair_entries e t)
  unfolding pair_entries
  pairs-positive e t p h = every-each (λ f. when (T e.cells f.cells) (entry (M e.cells f.cells) (e.count * f.count))) (λ f q. every-when (T e.cells f.cells) (entry (M e.cells f.cells) (e.count * f.count)) (product-positive e.count f.count p q)) h

  pub join-positive : (s t : Table) → Positive s → Positive t → Positive (each (λ e. pair_entries e t) s)
  join-positive s t h k = every-each (λ e. pair_entries e t) (λ e p. pairs-positive e t p k) h

  -- ---- and left rows in none

  filled : {A : Type 0} → List A → Bool
  filled [] = false
  filled (x ∷ xs) = true

  or-else-sum : {A : Type 0} (f : A → ℕ) (a : A) (xs : List A) → total f (or_else a xs) ≡ total f xs + cond (not (filled xs)) (f a) 0
  unfolding total filled
  or-else-sum f a [] = let e = add-zero (f a) in omega arith
  or-else-sum f a (x ∷ xs) = sym (add-zero (f x + total f xs))

  filled-when : {A : Type 0} (c : Bool) (x : A) (ys : List A) → filled (when c x ++ ys) ≡ (c || filled ys)
  unfolding filled when
  filled-when true x ys = refl
  filled-when false x ys = refl

  filled-entries : (e : Entry) (t : Table) → filled (pair_entries e t) ≡ any (λ f. T e.cells f.cells) t
  unfolding pair_entries each any filled
  filled-entries e [] = refl
  filled-entries e (d ∷ t) = filled-when (T e.cells d.cells) (entry (M e.cells d.cells) (e.count * d.count)) (pair_entries e t) ∙ ap (λ b. T e.cells d.cells || b) (filled-entries e t)

  filled-rows : (x : List ℕ) (ys : List (List ℕ)) → filled (pair_rows x ys) ≡ any (T x) ys
  unfolding pair_rows each any filled
  filled-rows x [] = refl
  filled-rows x (y ∷ ys) = filled-when (T x y) (M x y) (pair_rows x ys) ∙ ap (λ b. T x y || b) (filled-rows x ys)

  pub bag-left : (u : List ℕ → List ℕ) (s t : Table) (xs ys : List (List ℕ)) → Bag s xs → Holds t ys → Bag (each (λ e. or_else (entry (u e.cells) e.count) (pair_entries e t)) s) (each (λ x. or_else (u x) (pair_rows x ys)) xs)
  unfolding weigh
  bag-left u s t xs ys a h f =
      total-each (share f) (λ e. or_else (entry (u e.cells) e.count) (pair_entries e t)) s
      ∙ (total-cong _ (λ e. e.count * total f (or_else (u e.cells) (pair_rows e.cells ys))) s (λ e.
      or-else-sum (share f) (entry (u e.cells) e.count) (pair_entries e t)
      ∙ (ap₂ ◌+◌ (entries-sum f e t ys h.bag) (ap (λ b. cond (not b) (e.count * f (u e.cells)) 0) (filled-entries e t ∙ (holds-any t ys h (T e.cells) ∙ sym (filled-rows e.cells ys))) ∙ inside e.count (not (filled (pair_rows e.cells ys))) (f (u e.cells)))
      ∙ (sym (mul-add e.count (total f (pair_rows e.cells ys)) (cond (not (filled (pair_rows e.cells ys))) (f (u e.cells)) 0)) ∙ ap (λ n. e.count * n) (sym (or-else-sum f (u e.cells) (pair_rows e.cells ys))))))
      ∙ (a (λ x. total f (or_else (u x) (pair_rows x ys))) ∙ sym (total-each f (λ x. or_else (u x) (pair_rows x ys)) xs)))

  or-else-positive : (a : Entry) (xs : List Entry) → 0 < a.count → Positive xs → Positive (or_else a xs)
  or-else-positive a [] p h = more p done
  or-else-positive a (x ∷ xs) p h = h

  pub left-positive : (u : List ℕ → List ℕ) (s t : Table) → Positive s → Positive t → Positive (each (λ e. or_else (entry (u e.cells) e.count) (pair_entries e t)) s)
  left-positive u s t h k = every-each (λ e. or_else (entry (u e.cells) e.count) (pair_entries e t)) (λ e p. or-else-positive (entry (u e.cells) e.count) (pair_entries e t) p (pairs-positive e t p k)) h

-- ---- each entry with each of a list's elements that passes

module _ {A : Type 0} (T : List ℕ → A → Bool) (M : List ℕ → A → List ℕ) (g : List A) where
  pub bag-match : (s : Table) (xs : List (List ℕ)) → Bag s xs → Bag (each (λ e. each (λ d. when (T e.cells d) (entry (M e.cells d) e.count)) g) s) (each (λ x. each (λ d. when (T x d) (M x d)) g) xs)
  unfolding weigh
  bag-match s xs a f =
      total-each (share f) (λ e. each (λ d. when (T e.cells d) (entry (M e.cells d) e.count)) g) s
      ∙ (total-cong _ (λ e. e.count * total f (each (λ d. when (T e.cells d) (M e.cells d)) g)) s (λ e.
      total-each (share f) (λ d. when (T e.cells d) (entry (M e.cells d) e.count)) g
      ∙ (total-cong _ (λ d. e.count * total f (when (T e.cells d) (M e.cells d))) g (λ d.
      total-when (share f) (T e.cells d) (entry (M e.cells d) e.count) ∙ (inside e.count (T e.cells d) (f (M e.cells d)) ∙ ap (λ n. e.count * n) (sym (total-when f (T e.cells d) (M e.cells d)))))
      ∙ (total-mul e.count (λ d. total f (when (T e.cells d) (M e.cells d))) g ∙ ap (λ n. e.count * n) (sym (total-each f (λ d. when (T e.cells d) (M e.cells d)) g)))))
      ∙ (a (λ x. total f (each (λ d. when (T x d) (M x d)) g)) ∙ sym (total-each f (λ x. each (λ d. when (T x d) (M x d)) g) xs)))

  pub match-positive : (s : Table) → Positive s → Positive (each (λ e. each (λ d. when (T e.cells d) (entry (M e.cells d) e.count)) g) s)
  match-positive s h = every-each (λ e. each (λ d. when (T e.cells d) (entry (M e.cells d) e.count)) g) (λ e p. every-each {P = λ d. A} (λ d. when (T e.cells d) (entry (M e.cells d) e.count)) (λ d q. every-when (T e.cells d) (entry (M e.cells d) e.count) p) (every-all (λ d. d) g)) h

-- ---- lines that pass, once each

module _ {A : Type 0} (T : A → Bool) (M : A → List ℕ) where
  pub bag-lines : (rs : List A) → Bag (each (λ l. when (T l) (entry (M l) 1)) rs) (each (λ l. when (T l) (M l)) rs)
  unfolding weigh
  bag-lines rs f =
      total-each (share f) (λ l. when (T l) (entry (M l) 1)) rs
      ∙ (total-cong _ _ rs (λ l. total-when (share f) (T l) (entry (M l) 1) ∙ (ap (λ n. cond (T l) n 0) (one-mul (f (M l))) ∙ sym (total-when f (T l) (M l)))) ∙ sym (total-each f (λ l. when (T l) (M l)) rs))

  pub lines-positive : (rs : List A) → Positive (each (λ l. when (T l) (entry (M l) 1)) rs)
  lines-positive rs = every-each {P = λ l. A} (λ l. when (T l) (entry (M l) 1)) (λ l q. every-when (T l) (entry (M l) 1) one) (every-all (λ l. l) rs)
    where
      one : 0 < 1
      one = omega arith

-- ---- each row made into another, and two lists together

pub bag-map : (h : List ℕ → List ℕ) (t : Table) (xs : List (List ℕ)) → Bag t xs → Bag (map (λ e. entry (h e.cells) e.count) t) (map h xs)
unfolding weigh
bag-map h t xs b f = total-map (share f) (λ e. entry (h e.cells) e.count) t ∙ (b (λ x. f (h x)) ∙ sym (total-map f h xs))

pub map-positive : (h : List ℕ → List ℕ) (t : Table) → Positive t → Positive (map (λ e. entry (h e.cells) e.count) t)
map-positive h t k = every_map (λ e. entry (h e.cells) e.count) (λ e p. p) k

pub bag-append : (s t : List Entry) (xs ys : List (List ℕ)) → Bag s xs → Bag t ys → Bag (s ++ t) (xs ++ ys)
unfolding weigh
bag-append s t xs ys a b f = total-append (share f) s t ∙ (ap₂ ◌+◌ (a f) (b f) ∙ sym (total-append f xs ys))
