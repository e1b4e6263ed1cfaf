-- A bgp with one more line: each row of the lines before, with each triple that the line can be, once. Assumes nothing.
use mathlib.Core.Path.{◌≡◌, refl, sym, ◌∙◌, ap, ap₂, subst}
use mathlib.Core.Bool.{Bool, true, false, cond, ◌&&◌, ◌||◌, false≢true}
use mathlib.Core.List.{List, [], ◌∷◌, ◌++◌}
use mathlib.Core.Option.{none, some}
use Prim.Native.Nat.{◌+◌, ◌*◌}
use native.Mathlib.Nat.{mul_comm, one-mul, zero-mul, zero-add}
use Rattle.text.specs.Text.{Bytes, same}
use Rattle.text.specs.Field.{is_var}
use Rattle.text.proofs.Basics.{same_refl, same-eq, and_left, and_right, and_both}
use Rattle.algebra.specs.Tree.{Triple}
use Rattle.algebra.specs.Valid.{mem}
use Rattle.scoping.specs.Sets.{all, any, keep, variables_of, triple_variables, each}
use Rattle.scoping.proofs.Basics.{clash, not-true, both_ways, either, split, mem-nil, mem-cases, mem-left, mem-right, mem-append-cases, variables-mem, all-at, all_of}
use Rattle.counting.specs.Bag.{when, once, total, tick, count}
use Rattle.counting.specs.Row.{Cell, same_cell, is_bound, or_cell, Row, merge, same_on}
use Rattle.counting.specs.Answer.{ways, is_in, terms, bgp_rows}
use Rattle.counting.proofs.Every.{Every, done, more, every-imp, every_two}
use Rattle.counting.proofs.Sums.{total-cong, total-every, total-each, total-when, total-mul, same_cell-eq, same_cell-refl, cond-tick}
use Rattle.counting.proofs.Only.{Only, only-bgp}
use Rattle.counting.proofs.Bgp.{cell_in, all-bound, by_rows, is_in-same}
use Rattle.counting.specs.Condition.{value_in}
use Rattle.evaluating.proofs.Sorted.{Different, dnil, dcons}

-- ---- triples

unfoldable pub same_triple : Triple → Triple → Bool
same_triple x y = same x.subj y.subj && (same x.pred y.pred && same x.obj y.obj)

-- under the row, the line is the triple
unfoldable pub line_is : Row → Triple → Triple → Bool
line_is r t d = same_cell (value_in t.subj r) (some d.subj) && (same_cell (value_in t.pred r) (some d.pred) && same_cell (value_in t.obj r) (some d.obj))

abbrev pub fields_of : Triple → List Bytes
fields_of t = t.subj ∷ t.pred ∷ t.obj ∷ []

or_nothing : (b : Bool) → (b || false) ≡ b
or_nothing true = refl
or_nothing false = refl

line_same : (r x : Row) (t d : Triple) → ((v : Bytes) → mem v (variables_of (fields_of t)) ≡ true → r v ≡ x v) → line_is r t d ≡ line_is x t d
unfolding is_in any line_is
line_same r x t d h = sym (or_nothing (line_is r t d)) ∙ is_in-same (d ∷ []) r x t h ∙ or_nothing (line_is x t d)

-- at most one of different triples
only_one : {A : Type 0} (eq : A → A → Bool) (f : A → Bool) → ((x y : A) → f x ≡ true → f y ≡ true → eq x y ≡ true) → {xs : List A} → Different eq xs → total (λ x. tick (f x)) xs ≡ tick (any f xs)
unfolding total any
only_one eq f h dnil = refl
only_one {A = A} eq f h (dcons {x = x} {xs = xs} n d) = go (f x) refl (only_one eq f h d)
  where
    none-else : f x ≡ true → {ys : List A} → Every (λ y. eq x y ≡ false) ys → total (λ y. tick (f y)) ys ≡ 0
    none-else e done = refl
    none-else e (more {x = y} k r) = ap₂ (λ b m. tick b + m) (not-true (f y) (λ i. clash (h x y e i) k)) (none-else e r)

    go : (b : Bool) → f x ≡ b → total (λ y. tick (f y)) xs ≡ tick (any f xs) → tick b + total (λ y. tick (f y)) xs ≡ tick (b || any f xs)
    go true e k = ap (λ m. 1 + m) (none-else e n)
    go false e k = zero-add (total (λ y. tick (f y)) xs) ∙ k

some-eq : (a b : Bytes) (c : Cell) → same_cell c (some a) ≡ true → same_cell c (some b) ≡ true → same a b ≡ true
unfolding same_cell
some-eq a b c h k = subst (λ x. same_cell x (some b) ≡ true) (same_cell-eq c (some a) h) k

one-triple : (r : Row) (t d e : Triple) → line_is r t d ≡ true → line_is r t e ≡ true → same_triple d e ≡ true
unfolding line_is same_triple
one-triple r t d e h k =
    let s = value_in t.subj r in
    let p = value_in t.pred r in
    let o = value_in t.obj r in
    and_both (same d.subj e.subj) _ (some-eq d.subj e.subj s (and_left (same_cell s (some d.subj)) _ h) (and_left (same_cell s (some e.subj)) _ k))
    (and_both (same d.pred e.pred) _ (some-eq d.pred e.pred p (and_left (same_cell p (some d.pred)) _ (and_right (same_cell s (some d.subj)) _ h)) (and_left (same_cell p (some e.pred)) _ (and_right (same_cell s (some e.subj)) _ k)))
    (some-eq d.obj e.obj o (and_right (same_cell p (some d.pred)) _ (and_right (same_cell s (some d.subj)) _ h)) (and_right (same_cell p (some e.pred)) _ (and_right (same_cell s (some e.subj)) _ k))))

triples-count : (g : List Triple) (r : Row) (t : Triple) → Different same_triple g → total (λ d. tick (line_is r t d)) g ≡ tick (is_in g r t)
unfolding is_in line_is
triples-count g r t d = only_one same_triple (line_is r t) (one-triple r t) d

-- ---- what a triple gives to the line's variables

unfoldable pub given : Triple → Triple → Row
given t d u = cond (is_var t.subj && same u t.subj) (some d.subj) (cond (is_var t.pred && same u t.pred) (some d.pred) (cond (is_var t.obj && same u t.obj) (some d.obj) none))

pick : (b : Bool) (x y z : Cell) → (b ≡ true → x ≡ z) → (b ≡ false → y ≡ z) → cond b x y ≡ z
pick true x y z f g = f refl
pick false x y z f g = g refl

field_is : (r : Row) (x y v : Bytes) → same_cell (value_in x r) (some y) ≡ true → (is_var x && same v x) ≡ true → some y ≡ r v
unfolding value_in
field_is r x y v h e =
    let i : is_var x ≡ true = and_left (is_var x) (same v x) e in
    let k : v ≡ x = same-eq v x (and_right (is_var x) (same v x) e) in
    sym (same_cell-eq (r x) (some y) (subst (λ b. same_cell (cond b (r x) (some x)) (some y) ≡ true) i h)) ∙ ap r (sym k)

not-field : {B : Type 0} (x v : Bytes) → is_var v ≡ true → v ≡ x → (is_var x && same v x) ≡ false → B
not-field x v i e n = clash (and_both (is_var x) (same v x) (subst (λ z. is_var z ≡ true) e i) (subst (λ z. same v z ≡ true) e (same_refl v))) n

given-at : (r : Row) (t d : Triple) (v : Bytes) → line_is r t d ≡ true → mem v (variables_of (fields_of t)) ≡ true → given t d v ≡ r v
unfolding line_is given
given-at r t d v h m =
    let s = same_cell (value_in t.subj r) (some d.subj) in
    let p = same_cell (value_in t.pred r) (some d.pred) in
    let o = same_cell (value_in t.obj r) (some d.obj) in
    let w = variables-mem v (fields_of t) m in
    pick (is_var t.subj && same v t.subj) _ _ (r v) (field_is r t.subj d.subj v (and_left s (p && o) h)) (λ a.
    pick (is_var t.pred && same v t.pred) _ _ (r v) (field_is r t.pred d.pred v (and_left p o (and_right s (p && o) h))) (λ b.
    pick (is_var t.obj && same v t.obj) _ _ (r v) (field_is r t.obj d.obj v (and_right p o (and_right s (p && o) h))) (λ c.
    either (λ e. not-field t.subj v w.0 e a) (λ n. either (λ e. not-field t.pred v w.0 e b) (λ n. either (λ e. not-field t.obj v w.0 e c) (λ n. mem-nil v n) (mem-cases v t.obj [] n)) (mem-cases v t.pred (t.obj ∷ []) n)) (mem-cases v t.subj (t.pred ∷ t.obj ∷ []) w.1))))

-- ---- a row of the lines before, with a triple

abbrev pub matched_with : Row → Triple → Triple → Row
matched_with a t d = merge a (given t d)

-- it binds each of these names
abbrev Full : List Bytes → Row → Type 0
Full vs a = (v : Bytes) → mem v vs ≡ true → is_bound (a v) ≡ true

own-cell : (x y : Cell) → is_bound x ≡ true → or_cell x y ≡ x
own-cell none y h = absurd (false≢true h)
own-cell (some a) y h = refl

module _ (ds : List Triple) (t : Triple) (a : Row) (oa : Only (triple_variables ds) a) (fa : Full (triple_variables ds) a) where
  abbrev before : List Bytes
  before = triple_variables ds

  abbrev after : List Bytes
  after = before ++ variables_of (fields_of t)

  before-cell : (d : Triple) (v : Bytes) → mem v before ≡ true → matched_with a t d v ≡ a v
  unfolding merge
  before-cell d v m = own-cell (a v) (given t d v) (fa v m)

  same_at : (vs : List Bytes) (r x : Row) → same_on vs r x ≡ true → (v : Bytes) → mem v vs ≡ true → r v ≡ x v
  unfolding same_on
  same_at vs r x h v m = same_cell-eq (r v) (x v) (all-at (λ u. same_cell (r u) (x u)) vs h v m)

  same_of : (vs : List Bytes) (r x : Row) → ((v : Bytes) → mem v vs ≡ true → r v ≡ x v) → same_on vs r x ≡ true
  unfolding same_on
  same_of vs r x h = all_of (λ u. same_cell (r u) (x u)) vs (λ v m. ap (same_cell (r v)) (sym (h v m)) ∙ same_cell-refl (r v))

  -- where the row is the same before and makes the line the triple, it is the matched row
  matched-at : (r : Row) (d : Triple) → same_on before r a ≡ true → line_is r t d ≡ true → (v : Bytes) → mem v after ≡ true → r v ≡ matched_with a t d v
  unfolding merge
  matched-at r d h k v m = either (λ i. inside i)
      (λ i. either (λ j. inside j) (λ n. sym (ap (λ x. or_cell x (given t d v)) (oa v n) ∙ given-at r t d v k i)) (split (mem v before)))
      (mem-append-cases v before (variables_of (fields_of t)) m)
    where
      inside : mem v before ≡ true → r v ≡ matched_with a t d v
      inside i = same_at before r a h v i ∙ sym (before-cell d v i)

  pub line_step : (r : Row) (d : Triple) → (line_is (matched_with a t d) t d && same_on after r (matched_with a t d)) ≡ (same_on before r a && line_is r t d)
  line_step r d = both_ways _ _
      (λ h.
      let l : line_is (matched_with a t d) t d ≡ true = and_left (line_is (matched_with a t d) t d) (same_on after r (matched_with a t d)) h in
      let e : (v : Bytes) → mem v after ≡ true → r v ≡ matched_with a t d v = same_at after r (matched_with a t d) (and_right (line_is (matched_with a t d) t d) (same_on after r (matched_with a t d)) h) in
      and_both (same_on before r a) (line_is r t d) (same_of before r a (λ v m. e v (mem-left v before (variables_of (fields_of t)) m) ∙ before-cell d v m)) (line_same r (matched_with a t d) t d (λ v m. e v (mem-right v before (variables_of (fields_of t)) m)) ∙ l))
      (λ h.
      let k : line_is r t d ≡ true = and_right (same_on before r a) (line_is r t d) h in
      let e : (v : Bytes) → mem v after ≡ true → r v ≡ matched_with a t d v = matched-at r d (and_left (same_on before r a) (line_is r t d) h) k in
      and_both (line_is (matched_with a t d) t d) (same_on after r (matched_with a t d)) (sym (line_same r (matched_with a t d) t d (λ v m. e v (mem-right v before (variables_of (fields_of t)) m))) ∙ k) (same_of after r (matched_with a t d) e))

-- ---- all of them

unfoldable pub matched_rows : List Triple → Triple → List Row → List Row
matched_rows g t rows = each (λ a. each (λ d. when (line_is (matched_with a t d) t d) (matched_with a t d)) g) rows

every-kept : {A : Type 0} (f : A → Bool) (xs : List A) → Every (λ x. f x ≡ true) (keep f xs)
unfolding keep
every-kept f [] = done
every-kept f (x ∷ xs) = go (f x) refl (every-kept f xs)
  where
    go : (b : Bool) → f x ≡ b → Every (λ y. f y ≡ true) (keep f xs) → Every (λ y. f y ≡ true) (cond b (x ∷ keep f xs) (keep f xs))
    go true e k = more e k
    go false e k = k

bound-cell : (ts : List Bytes) (c : Cell) → cell_in ts c ≡ true → is_bound c ≡ true
bound-cell ts none h = h
bound-cell ts (some x) h = refl

bgp-full : (g ds : List Triple) → Every (Full (triple_variables ds)) (bgp_rows g ds)
unfolding bgp_rows
bgp-full g ds = every-imp (λ a h v m. bound-cell (terms g) (a v) (all-bound g a ds h v m)) (every-kept (λ r. all (is_in g r) ds) (ways (triple_variables ds) (once same (terms g))))

tick-and : (a b : Bool) → tick (a && b) ≡ tick a * tick b
tick-and true b = sym (one-mul (tick b))
tick-and false b = sym (zero-mul (tick b))

all-last : (f : Triple → Bool) (ds : List Triple) (t : Triple) → all f (ds ++ (t ∷ [])) ≡ (all f ds && f t)
unfolding all
all-last f [] t = and-true (f t)
  where
    and-true : (b : Bool) → (b && true) ≡ b
    and-true true = refl
    and-true false = refl
all-last f (d ∷ ds) t = ap (λ b. f d && b) (all-last f ds t) ∙ and-group (f d) (all f ds) (f t)
  where
    and-group : (a b c : Bool) → (a && (b && c)) ≡ ((a && b) && c)
    and-group true b c = refl
    and-group false b c = refl

-- each row stands among them once if it makes every line a triple, else never
pub matched-count : (g ds : List Triple) (t : Triple) (r : Row) → Different same_triple g → count (same_on (triple_variables ds ++ variables_of (fields_of t))) r (matched_rows g t (bgp_rows g ds)) ≡ tick (all (is_in g r) (ds ++ (t ∷ [])))
unfolding count matched_rows
matched-count g ds t r dg =
    total-each (λ x. tick (same_on after r x)) _ (bgp_rows g ds)
    ∙ (total-every _ (λ a. tick (is_in g r t) * tick (same_on before r a)) (every_two (λ a oa fa.
    total-each (λ x. tick (same_on after r x)) (λ d. when (line_is (matched_with a t d) t d) (matched_with a t d)) g
    ∙ (total-cong _ (λ d. tick (same_on before r a) * tick (line_is r t d)) g (λ d.
    total-when (λ x. tick (same_on after r x)) (line_is (matched_with a t d) t d) (matched_with a t d)
    ∙ (cond-tick (line_is (matched_with a t d) t d) (same_on after r (matched_with a t d)) ∙ (ap tick (line_step ds t a oa fa r d) ∙ tick-and (same_on before r a) (line_is r t d))))
    ∙ (total-mul (tick (same_on before r a)) (λ d. tick (line_is r t d)) g ∙ (ap (λ n. tick (same_on before r a) * n) (triples-count g r t dg) ∙ mul_comm (tick (same_on before r a)) (tick (is_in g r t))))))
    (only-bgp g ds) (bgp-full g ds))
    ∙ (total-mul (tick (is_in g r t)) (λ a. tick (same_on before r a)) (bgp_rows g ds)
    ∙ (ap (λ n. tick (is_in g r t) * n) (by_rows g ds r)
    ∙ (mul_comm (tick (is_in g r t)) (tick (all (is_in g r) ds)) ∙ (sym (tick-and (all (is_in g r) ds) (is_in g r t)) ∙ ap tick (sym (all-last (is_in g r) ds t)))))))
  where
    before : List Bytes
    before = triple_variables ds

    after : List Bytes
    after = triple_variables ds ++ variables_of (fields_of t)
