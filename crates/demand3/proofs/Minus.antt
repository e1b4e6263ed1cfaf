-- Where two sides fit: the rows of the tree that without makes are the left rows that no right row matches. Assumes nothing.
use mathlib.Core.Path.{◌≡◌, refl, sym, ◌∙◌, ap, ap₂, fun_ext}
use mathlib.Core.Bool.{Bool, true, false, cond, not, ◌&&◌, ◌||◌, false≢true}
use mathlib.Core.List.{List, [], ◌∷◌, ◌++◌, map}
use mathlib.Core.Option.{none, some}
use Prim.Native.Nat.{ℕ, zero, suc, ◌<◌}
use native.Mathlib.Omega.{arith}
use lib.ListN.{length}
use Rattle.text.specs.Text.{Bytes, same}
use Rattle.text.proofs.Basics.{and_left, and_right, and_both, same-eq}
use Rattle.algebra.specs.Tree.{Triple, Pattern, minus, project}
use Rattle.scoping.specs.bridge.Sets.{Sub}
use Rattle.counting.specs.Bag.{count}
use Rattle.scoping.specs.Sets.{all, any, keep}
use Rattle.algebra.specs.Valid.{mem}
use Rattle.counting.specs.Row.{Cell, compatible, is_bound, Row, cut, agree, shares, cells, same_row}
use Rattle.scoping.specs.Variables.{scope_of}
use Rattle.scoping.specs.Rename.{rename_in_graph_pattern}
use Rattle.counting.specs.Scope.{names}
use Rattle.counting.specs.Answer.{removed, eval, answer}
use Rattle.merging.specs.Sides.{Pair, Side, column_at, renamed_columns, left_join_variables, lefts, rights}
use Rattle.demand3.specs.bridge.Sides.{whole, right_join_variables}
use Rattle.merging.proofs.Positions.{positions-in}
use Rattle.demand3.proofs.Side.{rows, rows_eq, columns-in, inner-in, inner-scope}
use Rattle.scoping.specs.Premises.{inside}
use Rattle.scoping.specs.bridge.Premises.{is_pair}
use Rattle.demand3.proofs.Fit.{Fit}
use Rattle.scoping.proofs.Basics.{both_ways, either, or_cases, or_inl, or_inr, mem-map, sub-append, map-map, map-cong, any-map}
use Rattle.counting.proofs.Basics.{keep-map}
use Rattle.scoping.proofs.Sets.{eq-same}
use Rattle.counting.proofs.Every.{keep-every}
use Rattle.counting.proofs.Only.{eval-only, agree-wider}
use Rattle.counting.proofs.Wider.{any-some-in, any-of-in, removed-wider}
use Rattle.counting.proofs.Sums.{same_row-refl, same_row-eq, count-keep}
use Rattle.counting.proofs.Push.{push, push_at, Hit, hit, miss, view}
use Rattle.counting.proofs.Columns.{cells_in, cells_cut}
use Rattle.demand3.proofs.Four.{agree-cong}
use Rattle.counting.proofs.Rename.{eval-renamed}
use Rattle.scoping.proofs.Positions.{inside-first, inside-rest}
use Rattle.demand3.proofs.Merge.{pair-in, columns, all-names, left-new, right_new, columns-new, apart, ca-in, cb-in}
use Rattle.demand3.proofs.Pairs.{agree-on-pairs}
use Rattle.demand3.specs.Unmatched.{agrees_on, cell_at, matches}

-- a side's inner pattern under its new names, and the left one minus the right one
abbrev renamed_inner : Side → Pattern
renamed_inner s = rename_in_graph_pattern s.name s.inner

abbrev pub remaining : Side → Side → Pattern
remaining l r = project (renamed_columns l) (minus (renamed_inner l) (renamed_inner r))

-- ---- cells

-- where two cells are not bound to two terms, both are bound exactly if they agree
agrees-is : (a b : Cell) → compatible a b ≡ true → (is_bound a && is_bound b) ≡ agrees_on a b
unfolding compatible agrees_on
agrees-is none b h = refl
agrees-is (some a) none h = refl
agrees-is (some a) (some b) h = sym h

module _ {A : Type 0} (x y : A → Cell) where
  any-agrees : (js : List A) → all (λ j. compatible (x j) (y j)) js ≡ true → any (λ j. is_bound (x j) && is_bound (y j)) js ≡ any (λ j. agrees_on (x j) (y j)) js
  unfolding all any
  any-agrees [] h = refl
  any-agrees (j ∷ js) h =
      ap₂ ◌||◌ (agrees-is (x j) (y j) (and_left (compatible (x j) (y j)) (all (λ j. compatible (x j) (y j)) js) h)) (any-agrees js (and_right (compatible (x j) (y j)) (all (λ j. compatible (x j) (y j)) js) h))

  -- no pair of cells is bound to two terms and some pair is bound: some pair agrees and none is bound to two terms
  tests-are : (js : List A) → (all (λ j. compatible (x j) (y j)) js && any (λ j. is_bound (x j) && is_bound (y j)) js) ≡ (any (λ j. agrees_on (x j) (y j)) js && all (λ j. compatible (x j) (y j)) js)
  tests-are js = go (all (λ j. compatible (x j) (y j)) js) refl
    where
      end : (t : Bool) → t ≡ (t && true)
      end true = refl
      end false = refl

      none_left : (t : Bool) → false ≡ (t && false)
      none_left true = refl
      none_left false = refl

      go : (t : Bool) → all (λ j. compatible (x j) (y j)) js ≡ t → (t && any (λ j. is_bound (x j) && is_bound (y j)) js) ≡ (any (λ j. agrees_on (x j) (y j)) js && t)
      go true e = any-agrees js e ∙ end (any (λ j. agrees_on (x j) (y j)) js)
      go false e = none_left (any (λ j. agrees_on (x j) (y j)) js)

-- ---- join pairs

module _ (test : Bytes → Bytes → Bool) (L R : Pair → Bytes) where
  pair-some : (js : List Pair) (u v : Bytes) → is_pair (map L js) (map R js) u v ≡ true → test u v ≡ true → any (λ j. test (L j) (R j)) js ≡ true
  unfolding any is_pair
  pair-some [] u v p h = absurd (false≢true p)
  pair-some (j ∷ js) u v p h = either
      (λ e. or_inl (test (L j) (R j)) (any (λ i. test (L i) (R i)) js) (ap₂ test (same-eq (L j) u (and_left (same (L j) u) (same (R j) v) e)) (same-eq (R j) v (and_right (same (L j) u) (same (R j) v) e)) ∙ h))
      (λ e. or_inr (test (L j) (R j)) (any (λ i. test (L i) (R i)) js) (pair-some js u v e h))
      (or_cases (same (L j) u && same (R j) v) (is_pair (map L js) (map R js) u v) p)

  some_pair : (js : List Pair) → any (λ j. test (L j) (R j)) js ≡ true → (u v : Bytes) × (is_pair (map L js) (map R js) u v ≡ true) × (test u v ≡ true)
  unfolding any is_pair
  some_pair [] h = absurd (false≢true h)
  some_pair (j ∷ js) h = either
      (λ e. (L j, R j, or_inl (same (L j) (L j) && same (R j) (R j)) (is_pair (map L js) (map R js) (L j) (R j)) (and_both (same (L j) (L j)) (same (R j) (R j)) (eq-same (L j) (L j) refl) (eq-same (R j) (R j) refl)), e))
      (λ e. let t = some_pair js e in (t.0, t.1, or_inr (same (L j) t.0 && same (R j) t.1) (is_pair (map L js) (map R js) t.0 t.1) t.2, t.3))
      (or_cases (test (L j) (R j)) (any (λ i. test (L i) (R i)) js) h)

-- the cell of a row's cells at a position that is inside
pub at_cells : (cs : List Bytes) (a : Row) (i : ℕ) → i < length cs → cell_at (cells cs a) i ≡ a (column_at cs i)
at_cells [] a i h = absurd (omega arith)
at_cells (c ∷ cs) a zero h = refl
at_cells (c ∷ cs) a (suc i) h = at_cells cs a i (omega arith)

-- a test of the two cells of join pairs, by positions and by names
module _ (cs ds : List Bytes) (a b : Row) (test : Cell → Cell → Bool) where
  cells-test : (j : Pair) → j.left < length cs → j.right < length ds → test (a (column_at cs j.left)) (b (column_at ds j.right)) ≡ test (cell_at (cells cs a) j.left) (cell_at (cells ds b) j.right)
  cells-test j h k = ap₂ test (sym (at_cells cs a j.left h)) (sym (at_cells ds b j.right k))

  any_cells : (js : List Pair) → inside cs (lefts js) ≡ true → inside ds (rights js) ≡ true
      → any (λ j. test (a (column_at cs j.left)) (b (column_at ds j.right))) js ≡ any (λ j. test (cell_at (cells cs a) j.left) (cell_at (cells ds b) j.right)) js
  unfolding any
  any_cells [] h k = refl
  any_cells (j ∷ js) h k = ap₂ ◌||◌
      (cells-test j (inside-first cs j.left (lefts js) h) (inside-first ds j.right (rights js) k))
      (any_cells js (inside-rest cs j.left (lefts js) h) (inside-rest ds j.right (rights js) k))

  all-cells : (js : List Pair) → inside cs (lefts js) ≡ true → inside ds (rights js) ≡ true
      → all (λ j. test (a (column_at cs j.left)) (b (column_at ds j.right))) js ≡ all (λ j. test (cell_at (cells cs a) j.left) (cell_at (cells ds b) j.right)) js
  unfolding all
  all-cells [] h k = refl
  all-cells (j ∷ js) h k = ap₂ ◌&&◌
      (cells-test j (inside-first cs j.left (lefts js) h) (inside-first ds j.right (rights js) k))
      (all-cells js (inside-rest cs j.left (lefts js) h) (inside-rest ds j.right (rights js) k))

module _ (l r : Side) (js : List Pair) (fit : Fit l r js) (left-inside : inside l.columns (lefts js) ≡ true) (right-inside : inside r.columns (rights js) ≡ true) (g : List Triple) where
  abbrev L : Pair → Bytes
  L j = column_at l.columns j.left

  abbrev R : Pair → Bytes
  R j = column_at r.columns j.right

  -- a row of each side under the new names
  abbrev pushed_l : Row → Row
  pushed_l = push (names (whole l)) l.name

  abbrev pushed_r : Row → Row
  pushed_r = push (names (whole r)) r.name

  module _ (a b : Row) where
    agree-is : agree (all-names l r js fit g) (pushed_l a) (pushed_r b) ≡ all (λ j. compatible (a (L j)) (b (R j))) js
    agree-is =
        agree-wider (all-names l r js fit g) (columns l r js fit g) (pushed_l a) (pushed_r b) (columns-new l r js fit g) (apart l r js fit g a b)
        ∙ agree-cong (columns l r js fit g) (pushed_l a) (pushed_r b) _ _ (ca-in l r js fit g a b) (cb-in l r js fit g a b)
        ∙ agree-on-pairs l r js fit left-inside right-inside a b

    abbrev both : Bytes → Bytes → Bool
    both u v = is_bound (a u) && is_bound (b v)

    -- only a join pair is shared
    shared-pair : (w : Bytes) → (is_bound (pushed_l a w) && is_bound (pushed_r b w)) ≡ true → any (λ j. both (L j) (R j)) js ≡ true
    shared-pair w h = go (view (names (whole l)) l.name w) (view (names (whole r)) r.name w)
      where
        go : Hit (names (whole l)) l.name w → Hit (names (whole r)) r.name w → any (λ j. both (L j) (R j)) js ≡ true
        go (miss p k) t = absurd (false≢true (sym (ap (λ (x : Cell). is_bound x && is_bound (pushed_r b w)) (p a)) ∙ h))
        go (hit v mv q) (miss p k) = absurd (false≢true (sym (ap is_bound (p b)) ∙ and_right (is_bound (pushed_l a w)) (is_bound (pushed_r b w)) h))
        go (hit v mv q) (hit u mu q') =
            pair-some both L R js v u (sym (fit.joined v u mv mu) ∙ eq-same (l.name v) (r.name u) (q ∙ sym q'))
            (ap₂ (λ (x y : Cell). is_bound x && is_bound y)
            (sym (push_at (names (whole l)) l.name fit.left.apart a v mv) ∙ ap (pushed_l a) q)
            (sym (push_at (names (whole r)) r.name fit.right.apart b u mu) ∙ ap (pushed_r b) q') ∙ h)

    pair-shared : any (λ j. both (L j) (R j)) js ≡ true → shares (all-names l r js fit g) (pushed_l a) (pushed_r b) ≡ true
    unfolding shares
    pair-shared h =
        let t = some_pair both L R js h in
        let u = t.0 in
        let v = t.1 in
        let k = pair-in (left_join_variables l js) (right_join_variables r js) u v t.2 in
        let mu : mem u (names (whole l)) ≡ true = columns-in l fit.left u (positions-in l.columns (λ j. j.left) js left-inside u k.0) in
        let mv : mem v (names (whole r)) ≡ true = columns-in r fit.right v (positions-in r.columns (λ j. j.right) js right-inside v k.1) in
        let e : l.name u ≡ r.name v = same-eq (l.name u) (r.name v) (fit.joined u v mu mv ∙ t.2) in
        any-of-in (λ w. is_bound (pushed_l a w) && is_bound (pushed_r b w)) (all-names l r js fit g) (l.name u)
        (left-new l r js fit g (l.name u) (mem-map l.name u (names (whole l)) mu))
        (ap₂ (λ (x y : Cell). is_bound x && is_bound y)
        (push_at (names (whole l)) l.name fit.left.apart a u mu)
        (ap (pushed_r b) e ∙ push_at (names (whole r)) r.name fit.right.apart b v mv) ∙ t.3)

    shares-is : shares (all-names l r js fit g) (pushed_l a) (pushed_r b) ≡ any (λ j. both (L j) (R j)) js
    unfolding shares
    shares-is = both_ways (shares (all-names l r js fit g) (pushed_l a) (pushed_r b)) (any (λ j. both (L j) (R j)) js)
        (λ h. let t = any-some-in (λ w. is_bound (pushed_l a w) && is_bound (pushed_r b w)) (all-names l r js fit g) h in shared-pair t.0 t.2)
        pair-shared

    -- minus compares two rows as a match does
    compared : (agree (all-names l r js fit g) (pushed_l a) (pushed_r b) && shares (all-names l r js fit g) (pushed_l a) (pushed_r b)) ≡ matches js (cells l.columns a) (cells r.columns b)
    unfolding matches
    compared =
        ap₂ ◌&&◌ agree-is shares-is
        ∙ tests-are (λ j. a (L j)) (λ j. b (R j)) js
        ∙ ap₂ ◌&&◌ (any_cells l.columns r.columns a b agrees_on js left-inside right-inside) (all-cells l.columns r.columns a b compatible js left-inside right-inside)

  -- a left row has a match
  abbrev matched : List Cell → Bool
  matched x = any (matches js x) (rows g r)

  scopes : Sub (scope_of (renamed_inner l) ++ scope_of (renamed_inner r)) (all-names l r js fit g)
  scopes = sub-append (scope_of (renamed_inner l)) (scope_of (renamed_inner r)) (all-names l r js fit g)
      (λ v k. left-new l r js fit g v (inner-scope l fit.left v k)) (λ v k. right_new l r js fit g v (inner-scope r fit.right v k))

  left-eval : eval g (renamed_inner l) ≡ map pushed_l (eval g l.inner)
  left-eval = eval-renamed (names (whole l)) l.name fit.left.apart fit.left.variables g l.inner (inner-in l fit.left)

  right-eval : eval g (renamed_inner r) ≡ map pushed_r (eval g r.inner)
  right-eval = eval-renamed (names (whole r)) r.name fit.right.apart fit.right.variables g r.inner (inner-in r fit.right)

  removed-is : (a : Row) → removed (all-names l r js fit g) (eval g (renamed_inner r)) (pushed_l a) ≡ matched (cells l.columns a)
  unfolding removed
  removed-is a =
      ap (λ (bs : List Row). any (λ b. agree (all-names l r js fit g) (pushed_l a) b && shares (all-names l r js fit g) (pushed_l a) b) bs) right-eval
      ∙ any-map _ pushed_r (eval g r.inner)
      ∙ ap (λ (t : Row → Bool). any t (eval g r.inner)) (fun_ext (λ b. compared a b))
      ∙ sym (ap (any (matches js (cells l.columns a))) (rows_eq g r) ∙ any-map (matches js (cells l.columns a)) (cells r.columns) (eval g r.inner))

  minus-eval : eval g (minus (renamed_inner l) (renamed_inner r)) ≡ map pushed_l (keep (λ a. not (matched (cells l.columns a))) (eval g l.inner))
  unfolding eval
  minus-eval =
      keep-every _ _ (eval-only g (renamed_inner l)) (λ a o. ap not (sym (removed-wider (all-names l r js fit g) (scope_of (renamed_inner l)) (scope_of (renamed_inner r)) a (eval g (renamed_inner r)) scopes o)))
      ∙ ap (keep (λ a. not (removed (all-names l r js fit g) (eval g (renamed_inner r)) a))) left-eval
      ∙ keep-map (λ a. not (removed (all-names l r js fit g) (eval g (renamed_inner r)) a)) (λ a. not (matched (cells l.columns a))) pushed_l (eval g l.inner) (λ a. ap not (removed-is a))

  new-cells : (a : Row) → cells (renamed_columns l) (cut (renamed_columns l) (pushed_l a)) ≡ cells l.columns a
  new-cells a =
      cells_cut (renamed_columns l) (pushed_l a)
      ∙ map-map (pushed_l a) l.name l.columns
      ∙ cells_in (λ v. pushed_l a (l.name v)) a l.columns (λ v m. push_at (names (whole l)) l.name fit.left.apart a v (columns-in l fit.left v m))

  -- the answer: the left rows without a match, in their order
  pub remaining-rows : answer (renamed_columns l) g (remaining l r) ≡ keep (λ x. not (matched x)) (rows g l)
  unfolding answer eval
  remaining-rows =
      ap (λ (xs : List Row). map (cells (renamed_columns l)) (map (cut (renamed_columns l)) xs)) minus-eval
      ∙ map-map (cells (renamed_columns l)) (cut (renamed_columns l)) (map pushed_l kept)
      ∙ map-map (λ a. cells (renamed_columns l) (cut (renamed_columns l) a)) pushed_l kept
      ∙ map-cong _ (cells l.columns) kept new-cells
      ∙ sym (ap (keep (λ x. not (matched x))) (rows_eq g l) ∙ keep-map (λ x. not (matched x)) (λ a. not (matched (cells l.columns a))) (cells l.columns) (eval g l.inner) (λ a. refl))
    where
      kept : List Row
      kept = keep (λ a. not (matched (cells l.columns a))) (eval g l.inner)

  -- and each row's count
  pub remaining-count : (x : List Cell) → count same_row x (answer (renamed_columns l) g (remaining l r)) ≡ cond (matched x) 0 (count same_row x (rows g l))
  remaining-count x = ap (count same_row x) remaining-rows ∙ count-keep same_row same_row-refl same_row-eq x (λ y. not (matched y)) (rows g l) ∙ turned (matched x)
    where
      turned : (t : Bool) → cond (not t) (count same_row x (rows g l)) 0 ≡ cond t 0 (count same_row x (rows g l))
      turned true = refl
      turned false = refl
