-- The sums for a merge and for the swapped merge agree on rows that are read by each column's side and position. Assumes nothing.
use mathlib.Core.Path.{◌≡◌, refl, sym, ◌∙◌, ap, ap₂, subst}
use mathlib.Core.Bool.{Bool, true, false, cond, not, ◌&&◌, false≢true}
use mathlib.Core.List.{List, [], ◌∷◌, ◌++◌, map}
use mathlib.Core.Option.{some}
use Prim.Native.Nat.{ℕ, zero, suc, ◌+◌, ◌<◌, ◌≤◌}
use native.Mathlib.Omega.{arith}
use lib.ListN.{length}
use lib.Dec.{eqb, ltb}
use borrow.Author.Tests.{eq-eqb, eqb-true, eqb-false, ltb-true}
use Rattle.text.specs.Text.{Bytes}
use Rattle.text.proofs.Basics.{and_left, and_right, and_both}
use Rattle.algebra.specs.Tree.{Triple}
use Rattle.scoping.specs.Label.{generated, prefix_j, prefix_l, prefix_r}
use Rattle.scoping.specs.bridge.Sets.{Sub}
use Rattle.scoping.specs.Sets.{all, any, keep}
use Rattle.algebra.specs.Valid.{mem}
use Rattle.counting.specs.Row.{Cell, same_cell, Row, cells, named, same_row, agree_all, merge_all}
use Rattle.merging.specs.Sides.{Pair, Constant, column_at, lefts, rights}
use Rattle.scoping.specs.Premises.{inside, different_positions}
use Rattle.scoping.proofs.Basics.{clash, not-true, both_ways, either, or_cases, or_inl, or_inr, all_map, map-map, map-cong, map-append, mem-left, mem-right, mem-there, mem-eq, mem-cases, sub-append}
use Rattle.counting.proofs.Every.{Every, done, more, every-imp, every_two}
use Rattle.counting.proofs.Sums.{same_cell-eq}
use Rattle.merging.specs.Request.{Projection, Request, positions}
use Rattle.merging.specs.Names.{from, is_at, place_in}
use Rattle.demand3.specs.Names.{column_positions, column_number, column_name, column_names, merged_names}
use Rattle.demand3.specs.Expected.{Single, single, constants_under, four_rows, makes, sum, expected_count}
use Rattle.algebra.proofs.Lines.{or-neither, not-no}
use Rattle.laws.specs.Swapped.{turned, swapped, left_shown, right_shown, row_of, either_side, alike, both_or_neither}
use Rattle.laws.proofs.Swap.{letter, other, back, named_other, at_other, shift, makes-shift, sum_by, sum-swap}

-- ---- join pairs turned round

pub lefts-turned : (js : List Pair) → lefts (map turned js) ≡ rights js
lefts-turned js = map-map (λ (j : Pair). j.left) turned js

pub rights-turned : (js : List Pair) → rights (map turned js) ≡ lefts js
rights-turned js = map-map (λ (j : Pair). j.right) turned js

-- ---- names on the other side

left_other : (x : Projection) (is : List ℕ) (i : ℕ) → column_name prefix_l x is i ≡ other (column_name prefix_r x is i)
unfolding column_name other letter generated
left_other x is i = go (is_at i is)
  where
    go : (t : Bool) → cond t (generated prefix_j (place_in i is)) (generated prefix_l (column_number x i)) ≡ other (cond t (generated prefix_j (place_in i is)) (generated prefix_r (column_number x i)))
    go true = refl
    go false = refl

right-other : (x : Projection) (is : List ℕ) (i : ℕ) → column_name prefix_r x is i ≡ other (column_name prefix_l x is i)
unfolding column_name other letter generated
right-other x is i = go (is_at i is)
  where
    go : (t : Bool) → cond t (generated prefix_j (place_in i is)) (generated prefix_r (column_number x i)) ≡ other (cond t (generated prefix_j (place_in i is)) (generated prefix_l (column_number x i)))
    go true = refl
    go false = refl

names-other : (f g : ℕ → Bytes) → ((i : ℕ) → f i ≡ other (g i)) → (ps : List ℕ) → map f ps ≡ map other (map g ps)
names-other f g h ps = map-cong f (λ i. other (g i)) ps h ∙ sym (map-map other g ps)

constants-other : (ns : List Bytes) (ks : List Constant) → constants_under (map other ns) ks ≡ back (constants_under ns ks)
constants-other ns ks =
    ap (λ (l : List Bytes). named l (map (λ k. some k.term) ks)) (map-cong _ _ ks (λ k. at_other ns k.position) ∙ sym (map-map other (λ (k : Constant). column_at ns k.position) ks))
    ∙ named_other (map (λ k. column_at ns k.position) ks) (map (λ k. some k.term) ks)

single-other : (p q : ℕ) (x : Projection) (is : List ℕ) (ks : List Constant) (g : List Triple) → ((i : ℕ) → column_name p x is i ≡ other (column_name q x is i)) → single p x is ks g ≡ shift (single q x is ks g)
unfolding single shift column_names
single-other p q x is ks g h =
    let n : column_names p x is ≡ map other (column_names q x is) = names-other (column_name p x is) (column_name q x is) h (column_positions x) in
    (λ i. record { rows = (single q x is ks g).rows; names = n i; constants = constants_under (n i) ks })
    ∙ (λ i. record { rows = (single q x is ks g).rows; names = map other (column_names q x is); constants = constants-other (column_names q x is) ks i })

-- ---- positions from one on, those kept

kept_at : (f p : ℕ → Bool) (n k : ℕ) → all f (keep p (from k n)) ≡ true → (i : ℕ) → k ≤ i → i < k + n → p i ≡ true → f i ≡ true
unfolding keep from all
kept_at f p zero k h i a b e = absurd (omega arith)
kept_at f p (suc n) k h i a b e = go (p k) refl h (eqb i k) refl (λ r c. kept_at f p n (suc k) r i c (omega arith) e)
  where
    go : (t : Bool) → p k ≡ t → all f (cond t (k ∷ keep p (from (suc k) n)) (keep p (from (suc k) n))) ≡ true → (s : Bool) → eqb i k ≡ s → (all f (keep p (from (suc k) n)) ≡ true → suc k ≤ i → f i ≡ true) → f i ≡ true
    go true q h true s r = ap f (eqb-true i k s) ∙ and_left (f k) (all f (keep p (from (suc k) n))) h
    go true q h false s r = let ne = eqb-false i k s in r (and_right (f k) (all f (keep p (from (suc k) n))) h) (omega arith)
    go false q h true s r = absurd (false≢true (sym q ∙ ap p (sym (eqb-true i k s)) ∙ e))
    go false q h false s r = let ne = eqb-false i k s in r h (omega arith)

kept_of : (f p : ℕ → Bool) (n k : ℕ) → ((i : ℕ) → k ≤ i → i < k + n → p i ≡ true → f i ≡ true) → all f (keep p (from k n)) ≡ true
unfolding keep from all
kept_of f p zero k h = refl
kept_of f p (suc n) k h = go (p k) refl (kept_of f p n (suc k) (λ i a b. h i (omega arith) (omega arith)))
  where
    go : (t : Bool) → p k ≡ t → all f (keep p (from (suc k) n)) ≡ true → all f (cond t (k ∷ keep p (from (suc k) n)) (keep p (from (suc k) n))) ≡ true
    go true q r = and_both (f k) (all f (keep p (from (suc k) n))) (h k (omega arith) (omega arith) q) r
    go false q r = r

-- ---- the columns shown on either side say the same

-- the two positions of a join pair: inside, with and without a constant alike, tested alike
record Partners (n : ℕ) (P Q f h : ℕ → Bool) (a b : ℕ) : Type 0 where
  low : a < n
  shown : P a ≡ Q b
  tested : f a ≡ h b

module _ (A B : Pair → ℕ) (n m : ℕ) (P Q f h : ℕ → Bool) where
  partner : (i : ℕ) {js : List Pair} → Every (λ j. Partners n P Q f h (A j) (B j)) js → is_at i (map B js) ≡ true → (k : ℕ) × Partners n P Q f h k i
  unfolding is_at any
  partner i done e = absurd (false≢true e)
  partner i (more {x = j} {xs = js} p r) e = either
      (λ (s : eqb i (B j) ≡ true). (A j, subst (λ (k : ℕ). Partners n P Q f h (A j) k) (sym (eqb-true i (B j) s)) p))
      (λ (s : any (eqb i) (map B js) ≡ true). partner i r s)
      (or_cases (eqb i (B j)) (any (eqb i) (map B js)) e)

  -- what is shown on one side, and on the other save the join columns, shows all
  one_way : {js : List Pair} → Every (λ j. Partners n P Q f h (A j) (B j)) js
      → (all f (keep P (from 0 n)) && all h (keep (λ i. Q i && not (is_at i (map B js))) (from 0 m))) ≡ true
      → (all h (keep Q (from 0 m)) && all f (keep (λ i. P i && not (is_at i (map A js))) (from 0 n))) ≡ true
  one_way {js = js} ev e =
      let a = and_left (all f (keep P (from 0 n))) (all h (keep (λ i. Q i && not (is_at i (map B js))) (from 0 m))) e in
      let b = and_right (all f (keep P (from 0 n))) (all h (keep (λ i. Q i && not (is_at i (map B js))) (from 0 m))) e in
      and_both (all h (keep Q (from 0 m))) (all f (keep (λ i. P i && not (is_at i (map A js))) (from 0 n)))
      (kept_of h Q m 0 (λ i x y q. go i x y q a b (is_at i (map B js)) refl))
      (kept_of f (λ i. P i && not (is_at i (map A js))) n 0 (λ i x y q. kept_at f P n 0 a i x y (and_left (P i) (not (is_at i (map A js))) q)))
    where
      go : (i : ℕ) → 0 ≤ i → i < 0 + m → Q i ≡ true → all f (keep P (from 0 n)) ≡ true → all h (keep (λ i. Q i && not (is_at i (map B js))) (from 0 m)) ≡ true → (t : Bool) → is_at i (map B js) ≡ t → h i ≡ true
      go i x y q a b true t =
          let w = partner i ev t in
          let low = w.1.low in
          sym w.1.tested ∙ kept_at f P n 0 a w.0 (omega arith) (omega arith) (w.1.shown ∙ q)
      go i x y q a b false t = kept_at h (λ i. Q i && not (is_at i (map B js))) m 0 b i x y (and_both (Q i) (not (is_at i (map B js))) q (ap not t))

turn-partners : (n m : ℕ) (P Q f h : ℕ → Bool) (a b : ℕ) → b < m → Partners n P Q f h a b → Partners m Q P h f b a
turn-partners n m P Q f h a b l p = record { low = l; shown = sym p.shown; tested = sym p.tested }

-- ---- join pairs have one name

every_of : {A : Type 0} (t : A → Bool) (xs : List A) → all t xs ≡ true → Every (λ x. t x ≡ true) xs
unfolding all
every_of t [] h = done
every_of t (x ∷ xs) h = more (and_left (t x) (all t xs) h) (every_of t xs (and_right (t x) (all t xs) h))

every-apart : (A : Pair → ℕ) (i : ℕ) (js : List Pair) → any (eqb i) (map A js) ≡ false → Every (λ j. eqb (A j) i ≡ false) js
unfolding any
every-apart A i [] h = done
every-apart A i (j ∷ js) h = let n = or-neither (eqb i (A j)) (any (eqb i) (map A js)) h in more (not-true (eqb (A j) i) (λ e. clash (eq-eqb i (A j) (sym (eqb-true (A j) i e))) n.0)) (every-apart A i js n.1)

record Placed (ls rs : List ℕ) (a b : ℕ) : Type 0 where
  at_left : is_at a ls ≡ true
  at_right : is_at b rs ≡ true
  place : place_in a ls ≡ place_in b rs

eqb-self : (i : ℕ) → eqb i i ≡ true
eqb-self i = eq-eqb i i refl

placed-here : (a b : ℕ) (ls rs : List ℕ) → Placed (a ∷ ls) (b ∷ rs) a b
unfolding is_at any place_in
placed-here a b ls rs = record {
  at_left = or_inl (eqb a a) (any (eqb a) ls) (eqb-self a);
  at_right = or_inl (eqb b b) (any (eqb b) rs) (eqb-self b);
  place = ap (λ (t : Bool). cond t 0 (suc (place_in a ls))) (eqb-self a) ∙ sym (ap (λ (t : Bool). cond t 0 (suc (place_in b rs))) (eqb-self b));
}

placed-there : (c d : ℕ) (ls rs : List ℕ) (a b : ℕ) → eqb a c ≡ false → eqb b d ≡ false → Placed ls rs a b → Placed (c ∷ ls) (d ∷ rs) a b
unfolding is_at any place_in
placed-there c d ls rs a b x y p = record {
  at_left = or_inr (eqb a c) (any (eqb a) ls) p.at_left;
  at_right = or_inr (eqb b d) (any (eqb b) rs) p.at_right;
  place = ap (λ (t : Bool). cond t 0 (suc (place_in a ls))) x ∙ ap suc p.place ∙ sym (ap (λ (t : Bool). cond t 0 (suc (place_in b rs))) y);
}

placed_alike : (js : List Pair) → different_positions (lefts js) ≡ true → different_positions (rights js) ≡ true → Every (λ j. Placed (lefts js) (rights js) j.left j.right) js
unfolding different_positions
placed_alike [] d e = done
placed_alike (h ∷ js) d e =
    more (placed-here h.left h.right (lefts js) (rights js))
    (every_two (λ j (a : (eqb j.left h.left ≡ false) × (eqb j.right h.right ≡ false)) p. placed-there h.left h.right (lefts js) (rights js) j.left j.right a.0 a.1 p)
    (every_two (λ j a b. (a, b))
    (every-apart (λ j. j.left) h.left js (not-no (any (eqb h.left) (lefts js)) (and_left (not (any (eqb h.left) (lefts js))) (different_positions (lefts js)) d)))
    (every-apart (λ j. j.right) h.right js (not-no (any (eqb h.right) (rights js)) (and_left (not (any (eqb h.right) (rights js))) (different_positions (rights js)) e))))
    (placed_alike js (and_right (not (any (eqb h.left) (lefts js))) (different_positions (lefts js)) d) (and_right (not (any (eqb h.right) (rights js))) (different_positions (rights js)) e)))

placed-name : (p q : ℕ) (x y : Projection) (ls rs : List ℕ) (a b : ℕ) → Placed ls rs a b → column_name p x ls a ≡ column_name q y rs b
unfolding column_name
placed-name p q x y ls rs a b t =
    ap (λ (s : Bool). cond s (generated prefix_j (place_in a ls)) (generated p (column_number x a))) t.at_left
    ∙ ap (generated prefix_j) t.place
    ∙ sym (ap (λ (s : Bool). cond s (generated prefix_j (place_in b rs)) (generated q (column_number y b))) t.at_right)

-- ---- rows under columns, by position

same_parts : (x x' y y' : ℕ → Cell) (ps qs : List ℕ) → same_row (map x ps ++ map y qs) (map x' ps ++ map y' qs) ≡ (all (λ i. same_cell (x i) (x' i)) ps && all (λ i. same_cell (y i) (y' i)) qs)
unfolding same_row all
same_parts x x' y y' [] [] = refl
same_parts x x' y y' [] (q ∷ qs) = ap (λ (b : Bool). same_cell (y q) (y' q) && b) (same_parts x x' y y' [] qs)
same_parts x x' y y' (p ∷ ps) qs = ap (λ (b : Bool). same_cell (x p) (x' p) && b) (same_parts x x' y y' ps qs) ∙ and_assoc (same_cell (x p) (x' p)) (all (λ i. same_cell (x i) (x' i)) ps) (all (λ i. same_cell (y i) (y' i)) qs)
  where
    and_assoc : (a b c : Bool) → (a && (b && c)) ≡ ((a && b) && c)
    and_assoc true b c = refl
    and_assoc false b c = refl

cells-parts : (u : Row) (N M : ℕ → Bytes) (ps qs : List ℕ) → cells (map N ps ++ map M qs) u ≡ map (λ i. u (N i)) ps ++ map (λ i. u (M i)) qs
cells-parts u N M ps qs = map-append u (map N ps) (map M qs) ∙ ap₂ ◌++◌ (map-map u N ps) (map-map u M qs)

shown-sub : (N : ℕ → Bytes) (p : ℕ → Bool) (is : List ℕ) → Sub (map N (keep p is)) (map N is)
unfolding keep
shown-sub N p [] v m = m
shown-sub N p (i ∷ is) v m = go (p i) (shown-sub N p is v) m
  where
    go : (t : Bool) → (mem v (map N (keep p is)) ≡ true → mem v (map N is) ≡ true) → mem v (map N (cond t (i ∷ keep p is) (keep p is))) ≡ true → mem v (N i ∷ map N is) ≡ true
    go true r h = either (λ e. mem-eq v (N i) (map N is) e) (λ k. mem-there v (N i) (map N is) (r k)) (mem-cases v (N i) (map N (keep p is)) h)
    go false r h = mem-there v (N i) (map N is) (r h)

-- ---- the law on requests

module _ (m : Request) (left_in : inside m.left.columns (lefts m.joins) ≡ true) (right-in : inside m.right.columns (rights m.joins) ≡ true)
    (left-once : different_positions (lefts m.joins) ≡ true) (right-once : different_positions (rights m.joins) ≡ true) (constants : both_or_neither m ≡ true) where
  abbrev js : List Pair
  js = m.joins

  abbrev NL : ℕ → Bytes
  NL = column_name prefix_l m.left (lefts js)

  abbrev NR : ℕ → Bytes
  NR = column_name prefix_r m.right (rights js)

  abbrev P : ℕ → Bool
  P i = not (is_at i (positions m.left_constants))

  abbrev Q : ℕ → Bool
  Q i = not (is_at i (positions m.right_constants))

  -- the swapped merge's columns under the merge's own names
  abbrev columns : List Bytes
  columns = map NR (keep Q (column_positions m.right)) ++ map NL (keep (λ i. P i && not (is_at i (lefts js))) (column_positions m.left))

  columns-other : merged_names (swapped m) ≡ map other columns
  unfolding merged_names
  columns-other =
      (λ i. map (column_name prefix_l m.right (lefts-turned js i)) (keep Q (column_positions m.right)) ++ map (column_name prefix_r m.left (rights-turned js i)) (keep (λ k. P k && not (is_at k (rights-turned js i))) (column_positions m.left)))
      ∙ ap₂ ◌++◌ (names-other (column_name prefix_l m.right (rights js)) NR (left_other m.right (rights js)) (keep Q (column_positions m.right)))
      (names-other (column_name prefix_r m.left (lefts js)) NL (right-other m.left (lefts js)) (keep (λ k. P k && not (is_at k (lefts js))) (column_positions m.left)))
      ∙ sym (map-append other (map NR (keep Q (column_positions m.right))) (map NL (keep (λ k. P k && not (is_at k (lefts js))) (column_positions m.left))))

  row-turned : (x y : ℕ → Cell) → row_of (swapped m) y x ≡ map y (keep Q (column_positions m.right)) ++ map x (keep (λ i. P i && not (is_at i (lefts js))) (column_positions m.left))
  unfolding row_of left_shown right_shown
  row-turned x y = λ i. map y (keep Q (column_positions m.right)) ++ map x (keep (λ k. P k && not (is_at k (rights-turned js i))) (column_positions m.left))

  module _ (g : List Triple) (x y : ℕ → Cell) (sides : either_side m x y ≡ true) where
    abbrev l : Single
    l = single prefix_l m.left (lefts js) m.left_constants g

    abbrev r : Single
    r = single prefix_r m.right (rights js) m.right_constants g

    columns-in : Sub columns (l.names ++ r.names)
    unfolding single column_names
    columns-in = sub-append (map NR (keep Q (column_positions m.right))) (map NL (keep (λ i. P i && not (is_at i (lefts js))) (column_positions m.left))) (l.names ++ r.names)
        (λ v k. mem-right v l.names r.names (shown-sub NR Q (column_positions m.right) v k))
        (λ v k. mem-left v l.names r.names (shown-sub NL (λ i. P i && not (is_at i (lefts js))) (column_positions m.left) v k))

    module _ (u : Row) where
      abbrev f : ℕ → Bool
      f i = same_cell (x i) (u (NL i))

      abbrev h : ℕ → Bool
      h i = same_cell (y i) (u (NR i))

      alike-not : (a b : Bool) → alike a b ≡ true → not a ≡ not b
      alike-not true true e = refl
      alike-not true false e = absurd (false≢true e)
      alike-not false true e = absurd (false≢true e)
      alike-not false false e = refl

      partners : Every (λ j. Partners (length m.left.columns) P Q f h j.left j.right) js
      unfolding inside both_or_neither either_side
      partners =
          every_two (λ j (a : (ltb j.left (length m.left.columns) ≡ true) × (alike (is_at j.left (positions m.left_constants)) (is_at j.right (positions m.right_constants)) ≡ true)) (p : (same_cell (x j.left) (y j.right) ≡ true) × (NL j.left ≡ NR j.right)). record { low = ltb-true j.left (length m.left.columns) a.0; shown = alike-not (is_at j.left (positions m.left_constants)) (is_at j.right (positions m.right_constants)) a.1; tested = ap₂ (λ (c : Cell) (w : Bytes). same_cell c (u w)) (same_cell-eq (x j.left) (y j.right) p.0) p.1 })
          (every_two (λ j a b. (a, b)) (every_of (λ j. ltb j.left (length m.left.columns)) js (sym (all_map (λ i. ltb i (length m.left.columns)) (λ (j : Pair). j.left) js) ∙ left_in)) (every_of (λ j. alike (is_at j.left (positions m.left_constants)) (is_at j.right (positions m.right_constants))) js constants))
          (every_two (λ j a b. (a, b)) (every_of (λ j. same_cell (x j.left) (y j.right)) js sides) (every-imp (λ j p. placed-name prefix_l prefix_r m.left m.right (lefts js) (rights js) j.left j.right p) (placed_alike js left-once right-once)))

      partners-back : Every (λ j. Partners (length m.right.columns) Q P h f j.right j.left) js
      unfolding inside
      partners-back = every_two (λ j a p. turn-partners (length m.left.columns) (length m.right.columns) P Q f h j.left j.right (ltb-true j.right (length m.right.columns) a) p)
          (every_of (λ j. ltb j.right (length m.right.columns)) js (sym (all_map (λ i. ltb i (length m.right.columns)) (λ (j : Pair). j.right) js) ∙ right-in)) partners

      rows_same : same_row (row_of (swapped m) y x) (cells columns u) ≡ same_row (row_of m x y) (cells (merged_names m) u)
      unfolding row_of left_shown right_shown merged_names
      rows_same =
          ap₂ same_row (row-turned x y) (cells-parts u NR NL (keep Q (column_positions m.right)) (keep (λ i. P i && not (is_at i (lefts js))) (column_positions m.left)))
          ∙ same_parts y (λ i. u (NR i)) x (λ i. u (NL i)) (keep Q (column_positions m.right)) (keep (λ i. P i && not (is_at i (lefts js))) (column_positions m.left))
          ∙ both_ways (all h (keep Q (from 0 (length m.right.columns))) && all f (keep (λ i. P i && not (is_at i (lefts js))) (from 0 (length m.left.columns))))
          (all f (keep P (from 0 (length m.left.columns))) && all h (keep (λ i. Q i && not (is_at i (rights js))) (from 0 (length m.right.columns))))
          (one_way (λ j. j.right) (λ j. j.left) (length m.right.columns) (length m.left.columns) Q P h f partners-back)
          (one_way (λ j. j.left) (λ j. j.right) (length m.left.columns) (length m.right.columns) P Q f h partners)
          ∙ sym (ap (same_row (row_of m x y)) (cells-parts u NL NR (left_shown m) (right_shown m)) ∙ same_parts x (λ i. u (NL i)) y (λ i. u (NR i)) (left_shown m) (right_shown m))

    -- the sum is the same
    pub swapped-expected : expected_count (swapped m) g (row_of (swapped m) y x) ≡ expected_count m g (row_of m x y)
    unfolding expected_count makes shift
    swapped-expected =
        (λ i. sum (single prefix_l m.right (lefts-turned js i) m.right_constants g) (single prefix_r m.left (rights-turned js i) m.left_constants g) (columns-other i) (row_of (swapped m) y x))
        ∙ (λ i. sum (single-other prefix_l prefix_r m.right (rights js) m.right_constants g (left_other m.right (rights js)) i) (single-other prefix_r prefix_l m.left (lefts js) m.left_constants g (right-other m.left (lefts js)) i) (map other columns) (row_of (swapped m) y x))
        ∙ sum_by (shift r) (shift l) r l (map other columns) columns (row_of (swapped m) y x) (row_of (swapped m) y x) shift-rows shift-rows-l (makes-shift r l columns (row_of (swapped m) y x))
        ∙ sym (sum-swap l r columns columns-in (row_of (swapped m) y x))
        ∙ sum_by l r l r columns (merged_names m) (row_of (swapped m) y x) (row_of m x y) refl refl (λ v w. ap (λ (b : Bool). agree_all (l.names ++ r.names) (four_rows l r v w) && b) (rows_same (merge_all (four_rows l r v w))))
      where
        shift-rows : (shift r).rows ≡ r.rows
        shift-rows = refl

        shift-rows-l : (shift l).rows ≡ l.rows
        shift-rows-l = refl
