-- A bgp has each row that makes its `t` lines triples, once, whatever the order and the repetition of the triples. Assumes nothing.
use mathlib.Core.Path.{◌≡◌, refl, sym, ◌∙◌, ap, ap₂, subst, fun_ext}
use mathlib.Core.Bool.{Bool, true, false, cond, ◌&&◌, ◌||◌, false≢true, and-false}
use mathlib.Core.List.{List, [], ◌∷◌, ◌++◌, map}
use mathlib.Core.Option.{none, some}
use Prim.Native.Nat.{ℕ, ◌*◌}
use native.Mathlib.Nat.{mul_comm, one-mul, zero-mul}
use Rattle.text.specs.Text.{Bytes, same}
use Rattle.text.specs.Field.{is_var}
use Rattle.text.proofs.Basics.{and_left, and_right, and_both, same_refl, same-eq}
use Rattle.algebra.specs.Tree.{Triple, bgp}
use Rattle.algebra.specs.Valid.{mem}
use Rattle.scoping.specs.Sets.{all, any, variables_of, triple_variables, each}
use Rattle.scoping.specs.Variables.{variables_in_pattern, scope_of}
use Rattle.scoping.specs.bridge.Sets.{Sub}
use Rattle.counting.specs.Bag.{once, total, tick, count}
use Rattle.counting.specs.Row.{Cell, same_cell, Row, bind, cells, same_on, same_row}
use Rattle.counting.specs.Condition.{value_in}
use Rattle.counting.specs.Answer.{ways, is_in, terms, bgp_rows, eval, answer}
use Rattle.scoping.proofs.Basics.{clash, not-true, both_ways, or_cases, either, mem-nil, mem-here, mem-there, mem-cases, mem-left, mem-right, mem-append-cases, mem-variables, variables-mem, all-cong, all-at, all_of}
use Rattle.counting.proofs.Sums.{cond-zero, total-cong, total-zero, total-map, total-each, total-keep, total-cond, total-mul, cond-tick, count-any, same_cell-eq}
use Rattle.counting.proofs.Columns.{count-rows}

-- the cell is one of the terms
abbrev pub cell_in : List Bytes → Cell → Bool
cell_in ts none = false
cell_in ts (some u) = mem u ts

-- ---- how often a term stands among different ones

pub mem-any : (u : Bytes) (xs : List Bytes) → any (same u) xs ≡ mem u xs
unfolding any mem
mem-any u [] = refl
mem-any u (x ∷ xs) = ap (λ b. same u x || b) (mem-any u xs)

cell-count : (c : Cell) (xs : List Bytes) → total (λ t. tick (same_cell c (some t))) (once same xs) ≡ tick (cell_in xs c)
unfolding same_cell count
cell-count none xs = total-zero (once same xs)
cell-count (some u) xs = count-any same same_refl same-eq u xs ∙ ap tick (mem-any u xs)

-- ---- how often a row stands among the ways

same_on-bind : (vs : List Bytes) (v t : Bytes) (r x : Row) → mem v vs ≡ false → same_on vs r (bind v t x) ≡ same_on vs r x
unfolding same_on bind
same_on-bind vs v t r x n = all-cong _ _ vs (λ u m. ap (λ c. same_cell (r u) (cond c (some t) (x u))) (not-true (same u v) (λ e. clash (subst (λ k. mem k vs ≡ true) (same-eq u v e) m) n)))

same_on-cons : (v : Bytes) (vs : List Bytes) (r x : Row) → mem v vs ≡ true → same_on (v ∷ vs) r x ≡ same_on vs r x
unfolding same_on all
same_on-cons v vs r x m = both_ways (same_cell (r v) (x v) && same_on vs r x) (same_on vs r x) (λ h. and_right (same_cell (r v) (x v)) (same_on vs r x) h) (λ h. and_both (same_cell (r v) (x v)) (same_on vs r x) (all-at (λ u. same_cell (r u) (x u)) vs h v m) h)

same_on-head : (v t : Bytes) (vs : List Bytes) (r x : Row) → mem v vs ≡ false → same_on (v ∷ vs) r (bind v t x) ≡ (same_cell (r v) (some t) && same_on vs r x)
unfolding same_on all bind
same_on-head v t vs r x n = ap₂ ◌&&◌ (ap (λ c. same_cell (r v) (cond c (some t) (x v))) (same_refl v)) (same_on-bind vs v t r x n)

tick-and : (a b : Bool) → tick (a && b) ≡ tick a * tick b
tick-and true b = sym (one-mul (tick b))
tick-and false b = sym (zero-mul (tick b))

all_cons : (f : Bytes → Bool) (v : Bytes) (vs : List Bytes) → mem v vs ≡ true → (f v && all f vs) ≡ all f vs
all_cons f v vs m = both_ways (f v && all f vs) (all f vs) (λ h. and_right (f v) (all f vs) h) (λ h. and_both (f v) (all f vs) (all-at f vs h v m) h)

-- every name of vs bound to a term: such a row stands once among the ways, any other never
ways-new : (v : Bytes) (vs xs : List Bytes) (r : Row) → mem v vs ≡ false → total (λ x. tick (same_on vs r x)) (ways vs (once same xs)) ≡ tick (all (λ u. cell_in xs (r u)) vs) → total (λ x. tick (same_on (v ∷ vs) r x)) (each (λ t. map (bind v t) (ways vs (once same xs))) (once same xs)) ≡ tick (cell_in xs (r v) && all (λ u. cell_in xs (r u)) vs)
ways-new v vs xs r n ih =
    total-each (λ x. tick (same_on (v ∷ vs) r x)) (λ t. map (bind v t) (ways vs (once same xs))) (once same xs)
    ∙ (total-cong _ (λ t. tick (all (λ u. cell_in xs (r u)) vs) * tick (same_cell (r v) (some t))) (once same xs) (λ t.
    total-map (λ x. tick (same_on (v ∷ vs) r x)) (bind v t) (ways vs (once same xs))
    ∙ (total-cong _ (λ x. tick (same_cell (r v) (some t)) * tick (same_on vs r x)) (ways vs (once same xs)) (λ x. ap tick (same_on-head v t vs r x n) ∙ tick-and (same_cell (r v) (some t)) (same_on vs r x))
    ∙ (total-mul (tick (same_cell (r v) (some t))) (λ x. tick (same_on vs r x)) (ways vs (once same xs))
    ∙ (ap (λ k. tick (same_cell (r v) (some t)) * k) ih ∙ mul_comm (tick (same_cell (r v) (some t))) (tick (all (λ u. cell_in xs (r u)) vs))))))
    ∙ (total-mul (tick (all (λ u. cell_in xs (r u)) vs)) (λ t. tick (same_cell (r v) (some t))) (once same xs)
    ∙ (ap (λ k. tick (all (λ u. cell_in xs (r u)) vs) * k) (cell-count (r v) xs)
    ∙ (mul_comm (tick (all (λ u. cell_in xs (r u)) vs)) (tick (cell_in xs (r v))) ∙ sym (tick-and (cell_in xs (r v)) (all (λ u. cell_in xs (r u)) vs))))))

ways-case : (v : Bytes) (vs xs : List Bytes) (r : Row) (c : Bool) → mem v vs ≡ c → total (λ x. tick (same_on vs r x)) (ways vs (once same xs)) ≡ tick (all (λ u. cell_in xs (r u)) vs) → total (λ x. tick (same_on (v ∷ vs) r x)) (cond c (ways vs (once same xs)) (each (λ t. map (bind v t) (ways vs (once same xs))) (once same xs))) ≡ tick (cell_in xs (r v) && all (λ u. cell_in xs (r u)) vs)
ways-case v vs xs r true e ih = total-cong _ _ (ways vs (once same xs)) (λ x. ap tick (same_on-cons v vs r x e)) ∙ (ih ∙ ap tick (sym (all_cons (λ u. cell_in xs (r u)) v vs e)))
ways-case v vs xs r false e ih = ways-new v vs xs r e ih

ways-count : (vs xs : List Bytes) (r : Row) → total (λ x. tick (same_on vs r x)) (ways vs (once same xs)) ≡ tick (all (λ u. cell_in xs (r u)) vs)
unfolding ways all same_on total
ways-count [] xs r = refl
ways-count (v ∷ vs) xs r = ways-case v vs xs r (mem v vs) refl (ways-count vs xs r)

-- ---- a row that makes the `t` lines triples

Three : Cell → Cell → Cell → List Bytes → Type 0
Three c d e ts = (cell_in ts c ≡ true) × (cell_in ts d ≡ true) × (cell_in ts e ≡ true)

cell_at : (c : Cell) (u : Bytes) (ts : List Bytes) → same_cell c (some u) ≡ true → mem u ts ≡ true → cell_in ts c ≡ true
cell_at c u ts e m = ap (cell_in ts) (same_cell-eq c (some u) e) ∙ m

cell-more : (c : Cell) (xs ys : List Bytes) → Sub xs ys → cell_in xs c ≡ true → cell_in ys c ≡ true
cell-more none xs ys s h = h
cell-more (some u) xs ys s h = s u h

-- cells that are a triple's are among the terms
three-in : (c d e : Cell) (g : List Triple) → any (λ x. same_cell c (some x.subj) && (same_cell d (some x.pred) && same_cell e (some x.obj))) g ≡ true → Three c d e (terms g)
unfolding any Three terms each
three-in c d e [] h = absurd (false≢true h)
three-in c d e (x ∷ g) h = either
    (λ k.
    let cs = same_cell c (some x.subj) in
    let ds = same_cell d (some x.pred) in
    let es = same_cell e (some x.obj) in (
      cell_at c x.subj (terms (x ∷ g)) (and_left cs (ds && es) k) (mem-here x.subj _),
      cell_at d x.pred (terms (x ∷ g)) (and_left ds es (and_right cs (ds && es) k)) (mem-there x.pred x.subj _ (mem-here x.pred _)),
      cell_at e x.obj (terms (x ∷ g)) (and_right ds es (and_right cs (ds && es) k)) (mem-there x.obj x.subj _ (mem-there x.obj x.pred _ (mem-here x.obj _))),
    ))
    (λ k.
    let t = three-in c d e g k in
    let s : Sub (terms g) (terms (x ∷ g)) = λ v m. mem-right v (x.subj ∷ (x.pred ∷ (x.obj ∷ []))) (terms g) m in
    (cell-more c (terms g) (terms (x ∷ g)) s t.0, cell-more d (terms g) (terms (x ∷ g)) s t.1, cell-more e (terms g) (terms (x ∷ g)) s t.2))
    (or_cases (same_cell c (some x.subj) && (same_cell d (some x.pred) && same_cell e (some x.obj))) _ h)

field_bound : (ts : List Bytes) (r : Row) (v x : Bytes) → cell_in ts (value_in x r) ≡ true → is_var v ≡ true → v ≡ x → cell_in ts (r v) ≡ true
unfolding value_in
field_bound ts r v x h m e = ap (λ (y : Bytes). cell_in ts (r y)) e ∙ sym (ap (λ (t : Bool). cell_in ts (cond t (r x) (some x))) (ap is_var (sym e) ∙ m)) ∙ h

-- where a row makes every `t` line a triple, it binds each of their names to a term
triple-bound : (g : List Triple) (r : Row) (t : Triple) → is_in g r t ≡ true → (v : Bytes) → mem v (variables_of (t.subj ∷ t.pred ∷ t.obj ∷ [])) ≡ true → cell_in (terms g) (r v) ≡ true
unfolding is_in Three
triple-bound g r t h v m =
    let k = three-in (value_in t.subj r) (value_in t.pred r) (value_in t.obj r) g h in
    let w = variables-mem v (t.subj ∷ t.pred ∷ t.obj ∷ []) m in
    either (field_bound (terms g) r v t.subj k.0 w.0)
    (λ b. either (field_bound (terms g) r v t.pred k.1 w.0)
    (λ c. either (field_bound (terms g) r v t.obj k.2 w.0) (λ n. mem-nil v n) (mem-cases v t.obj [] c)) (mem-cases v t.pred (t.obj ∷ []) b)) (mem-cases v t.subj (t.pred ∷ t.obj ∷ []) w.1)

pub all-bound : (g : List Triple) (r : Row) (ts : List Triple) → all (is_in g r) ts ≡ true → (v : Bytes) → mem v (triple_variables ts) ≡ true → cell_in (terms g) (r v) ≡ true
unfolding all triple_variables
all-bound g r [] h v m = mem-nil v m
all-bound g r (t ∷ ts) h v m = either (triple-bound g r t (and_left (is_in g r t) (all (is_in g r) ts) h) v) (all-bound g r ts (and_right (is_in g r t) (all (is_in g r) ts) h) v) (mem-append-cases v (variables_of (t.subj ∷ t.pred ∷ t.obj ∷ [])) (triple_variables ts) m)

-- rows that are the same on a pattern's names make it alike
value_same : (x : Bytes) (r s : Row) → (is_var x ≡ true → r x ≡ s x) → value_in x r ≡ value_in x s
unfolding value_in
value_same x r s h = go (is_var x) h
  where
    go : (t : Bool) → (t ≡ true → r x ≡ s x) → cond t (r x) (some x) ≡ cond t (s x) (some x)
    go true h = h refl
    go false h = refl

pub is_in-same : (g : List Triple) (r x : Row) (t : Triple) → ((v : Bytes) → mem v (variables_of (t.subj ∷ t.pred ∷ t.obj ∷ [])) ≡ true → r v ≡ x v) → is_in g r t ≡ is_in g x t
unfolding is_in
is_in-same g r x t h = λ i. any (λ y. same_cell (at t.subj (mem-here t.subj _) i) (some y.subj) && (same_cell (at t.pred (mem-there t.pred t.subj _ (mem-here t.pred _)) i) (some y.pred) && same_cell (at t.obj (mem-there t.obj t.subj _ (mem-there t.obj t.pred _ (mem-here t.obj []))) i) (some y.obj))) g
  where
    at : (v : Bytes) → mem v (t.subj ∷ t.pred ∷ t.obj ∷ []) ≡ true → value_in v r ≡ value_in v x
    at v m = value_same v r x (λ e. h v (mem-variables v (t.subj ∷ t.pred ∷ t.obj ∷ []) e m))

pub all_in-same : (g : List Triple) (r x : Row) (ts : List Triple) → ((v : Bytes) → mem v (triple_variables ts) ≡ true → r v ≡ x v) → all (is_in g r) ts ≡ all (is_in g x) ts
unfolding all triple_variables
all_in-same g r x [] h = refl
all_in-same g r x (t ∷ ts) h = ap₂ ◌&&◌ (is_in-same g r x t (λ v m. h v (mem-left v (variables_of (t.subj ∷ t.pred ∷ t.obj ∷ [])) (triple_variables ts) m))) (all_in-same g r x ts (λ v m. h v (mem-right v (variables_of (t.subj ∷ t.pred ∷ t.obj ∷ [])) (triple_variables ts) m)))

-- read at the row itself
at_row : (g ts : List Triple) (r x : Row) (c : Bool) → same_on (triple_variables ts) r x ≡ c → cond (all (is_in g x) ts) (tick c) 0 ≡ cond (all (is_in g r) ts) (tick c) 0
unfolding same_on
at_row g ts r x true e = ap (λ k. cond {A = ℕ} k 1 0) (all_in-same g x r ts (λ v m. sym (same_cell-eq (r v) (x v) (all-at (λ u. same_cell (r u) (x u)) (triple_variables ts) e v m))))
at_row g ts r x false e = cond-zero (all (is_in g x) ts) ∙ sym (cond-zero (all (is_in g r) ts))

-- the same, counted over the rows themselves
pub by_rows : (g ts : List Triple) (r : Row) → count (same_on (triple_variables ts)) r (bgp_rows g ts) ≡ tick (all (is_in g r) ts)
unfolding count bgp_rows
by_rows g ts r =
    total-keep (λ x. tick (same_on (triple_variables ts) r x)) (λ x. all (is_in g x) ts) (ways (triple_variables ts) (once same (terms g)))
    ∙ (total-cong _ _ (ways (triple_variables ts) (once same (terms g))) (λ x. at_row g ts r x (same_on (triple_variables ts) r x) refl)
    ∙ (total-cond (all (is_in g r) ts) (λ x. tick (same_on (triple_variables ts) r x)) (ways (triple_variables ts) (once same (terms g)))
    ∙ (ap (λ n. cond (all (is_in g r) ts) n 0) (ways-count (triple_variables ts) (terms g) r)
    ∙ (cond-tick (all (is_in g r) ts) (all (λ u. cell_in (terms g) (r u)) (triple_variables ts))
    ∙ ap tick (both_ways (all (is_in g r) ts && all (λ u. cell_in (terms g) (r u)) (triple_variables ts)) (all (is_in g r) ts)
    (λ h. and_left (all (is_in g r) ts) _ h)
    (λ h. and_both (all (is_in g r) ts) _ h (all_of (λ u. cell_in (terms g) (r u)) (triple_variables ts) (all-bound g r ts h))))))))

pub same_row-cells : (U : List Bytes) (a b : Row) → same_row (cells U a) (cells U b) ≡ same_on U a b
unfolding same_row same_on all
same_row-cells [] a b = refl
same_row-cells (v ∷ vs) a b = ap (λ c. same_cell (a v) (b v) && c) (same_row-cells vs a b)

-- bgp: the rows that bind its variables, no more, and turn each `t` line into a triple, once each; no other
pub bgp-count : (g ts : List Triple) (r : Row) → count same_row (cells (scope_of (bgp ts)) r) (answer (scope_of (bgp ts)) g (bgp ts)) ≡ tick (all (is_in g r) ts)
unfolding variables_in_pattern eval count
bgp-count g ts r = count-rows (triple_variables ts) (cells (triple_variables ts) r) g (bgp ts) ∙ (total-cong _ _ (bgp_rows g ts) (λ x. ap tick (same_row-cells (triple_variables ts) r x)) ∙ by_rows g ts r)

-- ---- the order and the repetition of the triples

-- the triple stands in the list
unfoldable pub has_triple : List Triple → Triple → Bool
has_triple g t = any (λ x. same t.subj x.subj && (same t.pred x.pred && same t.obj x.obj)) g

never : {A : Type 0} (f : A → Bool) (xs : List A) → ((x : A) → f x ≡ false) → any f xs ≡ false
unfolding any
never f [] h = refl
never f (x ∷ xs) h = ap₂ ◌||◌ (h x) (never f xs h)

three-test : Cell → Cell → Cell → Triple → Bool
three-test c d e x = same_cell c (some x.subj) && (same_cell d (some x.pred) && same_cell e (some x.obj))

three-lists : (g h : List Triple) → ((t : Triple) → has_triple g t ≡ has_triple h t) → (c d e : Cell) → any (three-test c d e) g ≡ any (three-test c d e) h
unfolding has_triple same_cell three-test
three-lists g h k none d e = never _ g (λ x. refl) ∙ sym (never _ h (λ x. refl))
three-lists g h k (some a) none e = never _ g (λ x. and-false (same a x.subj)) ∙ sym (never _ h (λ x. and-false (same a x.subj)))
three-lists g h k (some a) (some b) none = never _ g (λ x. and_none a b x) ∙ sym (never _ h (λ x. and_none a b x))
  where
    and_none : (a b : Bytes) (x : Triple) → (same a x.subj && (same b x.pred && false)) ≡ false
    and_none a b x = ap (λ t. same a x.subj && t) (and-false (same b x.pred)) ∙ and-false (same a x.subj)
three-lists g h k (some a) (some b) (some c) = k (record { subj = a; pred = b; obj = c })

-- bgp: two lists of the same triples, in whatever order and repetition, give each row the same count
pub bgp-any-order : (g h ts : List Triple) → ((t : Triple) → has_triple g t ≡ has_triple h t) → (r : Row) → count same_row (cells (scope_of (bgp ts)) r) (answer (scope_of (bgp ts)) g (bgp ts)) ≡ count same_row (cells (scope_of (bgp ts)) r) (answer (scope_of (bgp ts)) h (bgp ts))
unfolding is_in three-test
bgp-any-order g h ts k r = bgp-count g ts r ∙ (ap (λ f. tick (all f ts)) (fun_ext (λ t. three-lists g h k (value_in t.subj r) (value_in t.pred r) (value_in t.obj r))) ∙ sym (bgp-count h ts r))
