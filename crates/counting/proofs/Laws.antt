-- The count of a row in the answer of each kind of pattern, as docs/SPECIFICATION.md, "Counting part", states it. Assumes nothing.
-- Rows are lists of cells over U, any list that has the variables in scope.
use mathlib.Core.Path.{◌≡◌, refl, sym, ◌∙◌, ap, ap₂}
use mathlib.Core.Bool.{Bool, true, false, cond, not, ◌&&◌, ◌||◌}
use mathlib.Core.List.{List, [], ◌∷◌, ◌++◌, map}
use Prim.Native.Nat.{ℕ, ◌+◌, ◌*◌}
use native.Mathlib.Nat.{add-zero, add_comm, mul-one, mul-zero}
use Rattle.text.specs.Text.{Bytes}
use Rattle.algebra.specs.Tree.{Triple, Pattern, join, union, minus, leftjoin, filter, extend, values, project, distinct, Expression, Condition, always, provided}
use Rattle.scoping.specs.Sets.{any, keep, each}
use Rattle.scoping.specs.Variables.{scope_of}
use Rattle.scoping.specs.bridge.Sets.{Sub}
use Rattle.counting.specs.Bag.{when, once, total, tick, count}
use Rattle.counting.specs.Row.{Cell, Row, merge, cut, agree, same_on, cells, named, one_term, cell, same_row}
use Rattle.counting.specs.Condition.{term_of, passes}
use Rattle.counting.specs.Answer.{unions, or_else, extend_by, line_rows, removed, eval, answer}
use Rattle.scoping.proofs.Basics.{sub-left, sub-right}
use Rattle.counting.proofs.Basics.{keep-map}
use Rattle.counting.proofs.Every.{Every, done, more, every-imp, every-once, every_two, keep-every}
use Rattle.counting.proofs.Sums.{cond-zero, total-cong, total-every, total-append, total-map, total-each, total-when, total-keep, total-cond, total-add, cond-tick, count-any, sum-once, sum-pairs, same_row-refl, same_row-eq}
use Rattle.counting.proofs.Only.{Only, eval-only, only-in}
use Rattle.counting.proofs.Columns.{cells_cut, row-of-cells, count-rows}
use Rattle.counting.proofs.Wider.{agree-both, same_on-wider, unions-wider, removed-wider}
use Rattle.counting.proofs.Bgp.{same_row-cells}

-- ---- rows that a test keeps

-- where a row's cells are m, a test of it is the test of the row of m
test-at-cells : (U : List Bytes) (m : List Cell) (f : Row → Bool) (a : Row) → Only U a → (c : Bool) → same_row m (cells U a) ≡ c → cond (f a) (tick c) 0 ≡ cond (f (named U m)) (tick c) 0
test-at-cells U m f a o true e = ap (λ r. cond {A = ℕ} (f r) 1 0) (sym (ap (named U) (same_row-eq m (cells U a) e) ∙ row-of-cells U a o))
test-at-cells U m f a o false e = cond-zero (f a) ∙ sym (cond-zero (f (named U m)))

-- of the rows kept by a test, m counts as before if the test holds of it, else not at all
kept-count : (U : List Bytes) (m : List Cell) (f : Row → Bool) (g : List Triple) (p : Pattern) → Sub (scope_of p) U → total (λ a. cond (f a) (tick (same_row m (cells U a))) 0) (eval g p) ≡ cond (f (named U m)) (count same_row m (answer U g p)) 0
kept-count U m f g p s =
    total-every _ _ (every-imp (λ a o. test-at-cells U m f a o (same_row m (cells U a)) refl) (only-in U g p s))
    ∙ (total-cond (f (named U m)) (λ a. tick (same_row m (cells U a))) (eval g p) ∙ ap (λ n. cond (f (named U m)) n 0) (sym (count-rows U m g p)))

-- union: the counts of both sides add up
pub union-count : (U : List Bytes) (g : List Triple) (p q : Pattern) (m : List Cell) → count same_row m (answer U g (union p q)) ≡ count same_row m (answer U g p) + count same_row m (answer U g q)
unfolding eval
union-count U g p q m = count-rows U m g (union p q) ∙ (total-append (λ a. tick (same_row m (cells U a))) (eval g p) (eval g q) ∙ sym (ap₂ ◌+◌ (count-rows U m g p) (count-rows U m g q)))

-- filter: the rows that make the expression true
pub filter-count : (U : List Bytes) (g : List Triple) (p : Pattern) (e : Expression) → Sub (scope_of p) U → (m : List Cell) → count same_row m (answer U g (filter p e)) ≡ cond (passes (provided e) (named U m)) (count same_row m (answer U g p)) 0
unfolding eval
filter-count U g p e s m = count-rows U m g (filter p e) ∙ (total-keep (λ a. tick (same_row m (cells U a))) (passes (provided e)) (eval g p) ∙ kept-count U m (passes (provided e)) g p s)

-- minus: the left rows with which no right row agrees while sharing a bound variable
pub minus-count : (U : List Bytes) (g : List Triple) (p q : Pattern) → Sub (scope_of p ++ scope_of q) U → (m : List Cell) → count same_row m (answer U g (minus p q)) ≡ cond (not (removed U (eval g q) (named U m))) (count same_row m (answer U g p)) 0
unfolding eval
minus-count U g p q s m =
    count-rows U m g (minus p q)
    ∙ (ap (total (λ a. tick (same_row m (cells U a)))) (keep-every _ _ (eval-only g p) (λ a oa. ap not (sym (removed-wider U (scope_of p) (scope_of q) a (eval g q) s oa))))
    ∙ (total-keep (λ a. tick (same_row m (cells U a))) (λ a. not (removed U (eval g q) a)) (eval g p)
    ∙ kept-count U m (λ a. not (removed U (eval g q) a)) g p (sub-left (scope_of p) (scope_of q) U s)))

-- ---- rows that are made of one row each

-- over each different row x whose row under U becomes m: its count
unfoldable pub sums : List Bytes → List Bytes → (Row → Row) → List Triple → Pattern → List Cell → ℕ
sums U cs f g p m = total (λ x. cond (same_row m (cells cs (f (named U x)))) (count same_row x (answer U g p)) 0) (once same_row (answer U g p))

weigh : (c : Bool) (n : ℕ) → cond c n 0 ≡ n * tick c
weigh true n = sym (mul-one n)
weigh false n = sym (mul-zero n)

made-count : (U cs : List Bytes) (f : Row → Row) (g : List Triple) (p : Pattern) → Sub (scope_of p) U → (m : List Cell) → total (λ a. tick (same_row m (cells cs (f a)))) (eval g p) ≡ sums U cs f g p m
unfolding sums answer
made-count U cs f g p s m =
    total-every _ _ (every-imp (λ a o. ap (λ r. tick (same_row m (cells cs (f r)))) (sym (row-of-cells U a o))) (only-in U g p s))
    ∙ (sym (total-map (λ x. tick (same_row m (cells cs (f (named U x))))) (cells U) (eval g p))
    ∙ sym (total-cong _ _ (once same_row (map (cells U) (eval g p))) (λ x. weigh (same_row m (cells cs (f (named U x)))) (count same_row x (map (cells U) (eval g p))))
    ∙ sum-once same_row same_row-refl same_row-eq (λ x. tick (same_row m (cells cs (f (named U x))))) (map (cells U) (eval g p))))

-- extend: `?v` bound to what the term is in the row, if it is anything there
pub extend-count : (U cs : List Bytes) (g : List Triple) (v : Bytes) (p : Pattern) (e : Expression) → Sub (scope_of p) U → (m : List Cell) → count same_row m (answer cs g (extend v p e)) ≡ sums U cs (λ r. extend_by v (term_of e r) r) g p m
unfolding eval
extend-count U cs g v p e s m = count-rows cs m g (extend v p e) ∙ (total-map (λ a. tick (same_row m (cells cs a))) (λ r. extend_by v (term_of e r) r) (eval g p) ∙ made-count U cs (λ r. extend_by v (term_of e r) r) g p s m)

-- project: counts of the rows that become one under its columns add up
pub project-count : (U cs : List Bytes) (g : List Triple) (p : Pattern) → Sub (scope_of p) U → (m : List Cell) → count same_row m (answer cs g (project cs p)) ≡ sums U cs (λ r. r) g p m
unfolding eval
project-count U cs g p s m =
    count-rows cs m g (project cs p)
    ∙ (total-map (λ a. tick (same_row m (cells cs a))) (cut cs) (eval g p)
    ∙ (total-cong _ _ (eval g p) (λ a. ap (λ x. tick (same_row m x)) (cells_cut cs a)) ∙ made-count U cs (λ r. r) g p s m))

-- values: a row for each `row` line that gives no variable two terms
pub values-count : (U : List Bytes) (g : List Triple) (cs : List Bytes) (rs : List (List Bytes)) (m : List Cell) → count same_row m (answer U g (values cs rs)) ≡ total (λ xs. tick (one_term cs (map cell xs) && same_row m (cells U (named cs (map cell xs))))) rs
unfolding eval line_rows
values-count U g cs rs m =
    count-rows U m g (values cs rs)
    ∙ (total-each (λ a. tick (same_row m (cells U a))) (line_rows cs) rs
    ∙ total-cong _ _ rs (λ xs. total-when (λ a. tick (same_row m (cells U a))) (one_term cs (map cell xs)) (named cs (map cell xs)) ∙ cond-tick (one_term cs (map cell xs)) (same_row m (cells U (named cs (map cell xs))))))

-- distinct: each row there, once
pub once-map-every : {A B : Type 0} {P : A → Type 0} (f : B → B → Bool) (k : A → A → Bool) (h : A → B) {xs : List A} → Every P xs → ((x y : A) → P x → P y → f (h x) (h y) ≡ k x y) → once f (map h xs) ≡ map h (once k xs)
unfolding once
once-map-every f k h done e = refl
once-map-every f k h (more {x = x} {xs = xs} p r) e = ap (λ l. h x ∷ l) (ap (keep (λ y. not (f (h x) y))) (once-map-every f k h r e) ∙ (keep-map (λ y. not (f (h x) y)) (λ y. not (f (h x) (h y))) h (once k xs) (λ y. refl) ∙ ap (map h) (keep-every (λ y. not (f (h x) (h y))) (λ y. not (k x y)) (every-once k r) (λ y q. ap not (e x y p q)))))

pub distinct-count : (U : List Bytes) (g : List Triple) (p : Pattern) → Sub (scope_of p) U → (m : List Cell) → count same_row m (answer U g (distinct p)) ≡ tick (any (same_row m) (answer U g p))
unfolding eval answer
distinct-count U g p s m =
    ap (count same_row m) (sym (once-map-every same_row (same_on (scope_of p)) (cells U) (eval-only g p) (λ a b oa ob. same_row-cells U a b ∙ same_on-wider U (scope_of p) a b s oa ob)))
    ∙ count-any same_row same_row-refl same_row-eq m (map (cells U) (eval g p))

-- ---- pairs

-- x and y agree, and their union makes the condition true
abbrev pub pass : List Bytes → Condition → Row → Row → Bool
pass U c a b = agree U a b && passes c (merge a b)

-- and it is m
unfoldable pub meets : List Bytes → Condition → List Cell → List Cell → List Cell → Bool
meets U c m x y = pass U c (named U x) (named U y) && same_row m (cells U (merge (named U x) (named U y)))

-- over each different x and each different y that meet in m: count x times count y
unfoldable pub products : List Bytes → List Triple → Pattern → Pattern → Condition → List Cell → ℕ
products U g p q c m = total (λ x. total (λ y. cond (meets U c m x y) (count same_row x (answer U g p) * count same_row y (answer U g q)) 0) (once same_row (answer U g q))) (once same_row (answer U g p))

pub unions-sum : (F : Row → ℕ) (vs : List Bytes) (c : Condition) (a : Row) (bs : List Row) → total F (unions vs c a bs) ≡ total (λ b. cond (pass vs c a b) (F (merge a b)) 0) bs
unfolding unions
unions-sum F vs c a bs = total-each F (λ b. when (pass vs c a b) (merge a b)) bs ∙ total-cong _ _ bs (λ b. total-when F (pass vs c a b) (merge a b))

products_total : (U : List Bytes) (g : List Triple) (p q : Pattern) (c : Condition) (m : List Cell) → products U g p q c m ≡ total (λ a. total (λ b. tick (meets U c m (cells U a) (cells U b))) (eval g q)) (eval g p)
unfolding answer products
products_total U g p q c m = sum-pairs (meets U c m) (map (cells U) (eval g p)) (map (cells U) (eval g q)) ∙ (total-map _ (cells U) (eval g p) ∙ total-cong _ _ (eval g p) (λ a. total-map (inner a) (cells U) (eval g q)))
  where
    inner : Row → List Cell → ℕ
    inner a y = tick (meets U c m (cells U a) y)

pairs-products : (U : List Bytes) (g : List Triple) (p q : Pattern) (c : Condition) → Sub (scope_of p ++ scope_of q) U → (m : List Cell) → total (λ a. total (λ x. tick (same_row m (cells U x))) (unions (scope_of p ++ scope_of q) c a (eval g q))) (eval g p) ≡ products U g p q c m
unfolding meets
pairs-products U g p q c s m =
    total-every _ _ (every_two (λ a oa ou.
    unions-sum (λ x. tick (same_row m (cells U x))) (scope_of p ++ scope_of q) c a (eval g q)
    ∙ total-every _ _ (every-imp (λ b ob.
    cond-tick (pass (scope_of p ++ scope_of q) c a b) (same_row m (cells U (merge a b)))
    ∙ ap tick (ap (λ t. (t && passes c (merge a b)) && same_row m (cells U (merge a b))) (sym (agree-both U (scope_of p) (scope_of q) a b s oa))
    ∙ ap₂ (λ x y. pass U c x y && same_row m (cells U (merge x y))) (sym (row-of-cells U a ou)) (sym (row-of-cells U b ob)))) (only-in U g q (sub-right (scope_of p) (scope_of q) U s)))) (eval-only g p) (only-in U g p (sub-left (scope_of p) (scope_of q) U s)))
    ∙ sym (products_total U g p q c m)

-- join: unions of agreeing pairs, counts multiplied
pub join-count : (U : List Bytes) (g : List Triple) (p q : Pattern) → Sub (scope_of p ++ scope_of q) U → (m : List Cell) → count same_row m (answer U g (join p q)) ≡ products U g p q always m
unfolding eval
join-count U g p q s m =
    count-rows U m g (join p q)
    ∙ (total-each (λ a. tick (same_row m (cells U a))) (λ a. unions (scope_of p ++ scope_of q) always a (eval g q)) (eval g p) ∙ pairs-products U g p q always s m)

-- ---- rows without a pair

-- some right row is a pair with x
unfoldable pub paired : List Bytes → Condition → List Row → Row → Bool
paired U c bs a = any (pass U c a) bs

filled : {A : Type 0} → List A → Bool
filled [] = false
filled (x ∷ xs) = true

or-else-sum : (F : Row → ℕ) (a : Row) (xs : List Row) → total F (or_else a xs) ≡ total F xs + cond (not (filled xs)) (F a) 0
unfolding total filled
or-else-sum F a [] = add_comm (F a) 0
or-else-sum F a (x ∷ xs) = sym (add-zero (F x + total F xs))

filled-when : (c : Bool) (x : Row) (ys : List Row) → filled (when c x ++ ys) ≡ (c || filled ys)
unfolding filled when
filled-when true x ys = refl
filled-when false x ys = refl

filled-unions : (vs : List Bytes) (c : Condition) (a : Row) (bs : List Row) → filled (unions vs c a bs) ≡ paired vs c bs a
unfolding unions each any filled paired
filled-unions vs c a [] = refl
filled-unions vs c a (b ∷ bs) = filled-when (pass vs c a b) (merge a b) (unions vs c a bs) ∙ ap (λ t. pass vs c a b || t) (filled-unions vs c a bs)

-- leftjoin: the pairs of a join that pass the expression, if any, and the left rows that are in no such pair
pub leftjoin-count : (U : List Bytes) (g : List Triple) (p q : Pattern) (c : Condition) → Sub (scope_of p ++ scope_of q) U → (m : List Cell) → count same_row m (answer U g (leftjoin p q c)) ≡ products U g p q c m + cond (not (paired U c (eval g q) (named U m))) (count same_row m (answer U g p)) 0
unfolding eval
leftjoin-count U g p q c s m =
    count-rows U m g (leftjoin p q c)
    ∙ (total-each hits (λ a. or_else a (some_pairs a)) (eval g p)
    ∙ (total-cong _ _ (eval g p) (λ a. or-else-sum hits a (some_pairs a))
    ∙ (total-add (λ a. total hits (some_pairs a)) (λ a. cond (not (filled (some_pairs a))) (hits a) 0) (eval g p)
    ∙ ap₂ ◌+◌ (pairs-products U g p q c s m)
    (total-every _ _ (every-imp (λ a oa. ap (λ t. cond (not t) (hits a) 0) (ap filled (sym (unions-wider U (scope_of p) (scope_of q) c a (eval g q) s oa)) ∙ filled-unions U c a (eval g q))) (eval-only g p))
    ∙ kept-count U m (λ a. not (paired U c (eval g q) a)) g p (sub-left (scope_of p) (scope_of q) U s)))))
  where
    hits : Row → ℕ
    hits a = tick (same_row m (cells U a))

    some_pairs : Row → List Row
    some_pairs a = unions (scope_of p ++ scope_of q) c a (eval g q)
