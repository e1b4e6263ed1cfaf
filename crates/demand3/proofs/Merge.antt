-- The merged tree's answer has each row as often as the two answers make it. Assumes nothing.
use mathlib.Core.Path.{◌≡◌, refl, sym, ◌∙◌, ap, ap₂, subst}
use mathlib.Core.Bool.{Bool, true, false, cond, not, ◌&&◌, false≢true}
use mathlib.Core.List.{List, [], ◌∷◌, ◌++◌, map}
use mathlib.Core.Option.{none, some}
use Prim.Native.Nat.{ℕ}
use Rattle.text.specs.Text.{Bytes, same}
use Rattle.text.proofs.Basics.{and_left, and_right, same-eq}
use Rattle.algebra.specs.Tree.{Triple, join, project}
use Rattle.algebra.specs.Valid.{mem}
use Rattle.scoping.specs.Variables.{scope_of}
use Rattle.scoping.specs.bridge.Premises.{is_pair}
use Rattle.scoping.proofs.Sets.{eq-same}
use Rattle.scoping.specs.bridge.Sets.{Sub}
use Rattle.counting.specs.Bag.{total, tick, count}
use Rattle.counting.specs.Row.{Cell, compatible, or_cell, Row, merge, cut, agree, agree_all, merge_all, cells, named, same_row}
use Rattle.counting.specs.Scope.{names}
use Rattle.counting.specs.Answer.{eval, answer}
use Rattle.scoping.proofs.Basics.{clash, either, or_cases, mem-eq, mem-there, mem-left, mem-right, mem-append-cases, sub-append, mem-map, mem-unmap, keep-sub}
use Rattle.counting.proofs.Sums.{total-cong, total-map, total-cond, sum-pairs}
use Rattle.counting.proofs.Only.{Only, only-left, only-sub, compatible-none, none-compatible, Cover, cover-left, cover-right}
use Rattle.counting.proofs.Push.{push, Hit, hit, miss, view}
use Rattle.counting.proofs.Columns.{cells_in, cells_cut, count-rows}
use Rattle.merging.specs.Sides.{Pair, Side, renamed_columns, renamed_pattern, free_columns, left_join_variables, merged_columns, merged}
use Rattle.demand3.specs.bridge.Sides.{whole, right_join_variables}
use Rattle.demand3.specs.Expected.{four_rows, makes, sum}
use Rattle.demand3.proofs.Fit.{Fit}
use Rattle.demand3.proofs.Side.{constant_row, rows, as_single, or-none, positions-named, not-empty, join-sum, rows_eq, renamed, new_names, columns-in, renamed-columns-in, constant-only, renamed-scope, side-sum, read_at, only-columns}
use Rattle.merging.proofs.Positions.{free-sub}
use Rattle.demand3.proofs.Four.{agree-four, four-wider, four-cong}

-- ---- join pairs

pub pair-in : (ls rs : List Bytes) (a b : Bytes) → is_pair ls rs a b ≡ true → (mem a ls ≡ true) × (mem b rs ≡ true)
unfolding is_pair
pair-in [] rs a b h = absurd (false≢true h)
pair-in (l ∷ ls) [] a b h = absurd (false≢true h)
pair-in (l ∷ ls) (r ∷ rs) a b h = either
    (λ e. (mem-eq a l ls (sym (same-eq l a (and_left (same l a) (same r b) e))), mem-eq b r rs (sym (same-eq r b (and_right (same l a) (same r b) e)))))
    (λ e. let t = pair-in ls rs a b e in (mem-there a l ls t.0, mem-there b r rs t.1))
    (or_cases (same l a && same r b) (is_pair ls rs a b) h)

-- ---- the merged columns are new names of columns

merged-in : (l r : Side) (js : List Pair) → Sub (merged_columns l r js) (renamed_columns l ++ renamed_columns r)
unfolding merged_columns
merged-in l r js = sub-append (free_columns l) _ (renamed_columns l ++ renamed_columns r)
    (λ w k. mem-left w (renamed_columns l) (renamed_columns r) (free-sub l w k))
    (λ w k. mem-right w (renamed_columns l) (renamed_columns r) (free-sub r w (keep-sub (λ c. not (mem c (map l.name (left_join_variables l js)))) (free_columns r) w k)))

-- ---- Booleans

and-three : (a b c d : Bool) → (a && (b && (c && d))) ≡ ((a && (b && c)) && d)
and-three true true c d = refl
and-three true false c d = refl
and-three false b c d = refl

cond-three : (a b c d : Bool) → cond a (cond b (cond c (tick d) 0) 0) 0 ≡ tick (a && (b && (c && d)))
cond-three true true true d = refl
cond-three true true false d = refl
cond-three true false c d = refl
cond-three false b c d = refl

pub or_assoc : (x k y : Cell) → or_cell (or_cell x k) y ≡ or_cell x (or_cell k y)
or_assoc none k y = refl
or_assoc (some a) k y = refl

-- ---- both sides

module _ (l r : Side) (js : List Pair) (fit : Fit l r js) (g : List Triple) where
  -- a row of each answer makes the row m
  abbrev makes_row : List Cell → List Cell → List Cell → Bool
  makes_row = makes (as_single g l) (as_single g r) (merged_columns l r js)

  abbrev four : List Cell → List Cell → List Row
  four = four_rows (as_single g l) (as_single g r)

  -- the columns' new names, and all new names
  abbrev pub columns : List Bytes
  columns = renamed_columns l ++ renamed_columns r

  abbrev pub all-names : List Bytes
  all-names = new_names l fit.left ++ new_names r fit.right

  pub left-new : Sub (new_names l fit.left) all-names
  left-new w = mem-left w (new_names l fit.left) (new_names r fit.right)

  pub right_new : Sub (new_names r fit.right) all-names
  right_new w = mem-right w (new_names l fit.left) (new_names r fit.right)

  pub columns-new : Sub columns all-names
  columns-new = sub-append (renamed_columns l) (renamed_columns r) all-names (λ w m. left-new w (renamed-columns-in l fit.left w m)) (λ w m. right_new w (renamed-columns-in r fit.right w m))

  -- names of both sides that become one are columns
  meet : (v u : Bytes) → mem v (names (whole l)) ≡ true → mem u (names (whole r)) ≡ true → l.name v ≡ r.name u → (mem v l.columns ≡ true) × (mem u r.columns ≡ true)
  meet v u mv mu e =
      let t = pair-in (left_join_variables l js) (right_join_variables r js) v u (sym (fit.joined v u mv mu) ∙ eq-same (l.name v) (r.name u) e) in
      (positions-named l.columns (λ j. j.left) js v (not-empty l fit.left v mv) t.0, positions-named r.columns (λ j. j.right) js u (not-empty r fit.right u mu) t.1)

  in_left : (w : Bytes) → mem w columns ≡ true → (v : Bytes) → mem v (names (whole l)) ≡ true → l.name v ≡ w → mem v l.columns ≡ true
  in_left w m v mv q = either
      (λ k. only-columns l fit.left w k v mv q)
      (λ k. let t = mem-unmap r.name w r.columns k in (meet v t.0 mv (columns-in r fit.right t.0 t.1) (q ∙ t.2)).0)
      (mem-append-cases w (renamed_columns l) (renamed_columns r) m)

  in_right : (w : Bytes) → mem w columns ≡ true → (u : Bytes) → mem u (names (whole r)) ≡ true → r.name u ≡ w → mem u r.columns ≡ true
  in_right w m u mu q = either
      (λ k. let t = mem-unmap l.name w l.columns k in (meet t.0 u (columns-in l fit.left t.0 t.1) mu (sym (q ∙ t.2))).1)
      (λ k. only-columns r fit.right w k u mu q)
      (mem-append-cases w (renamed_columns l) (renamed_columns r) m)

  -- outside the columns' names no name is bound on both sides
  pub apart : (a b : Row) → Cover columns (renamed l fit.left a) (renamed r fit.right b)
  apart a b w n = go (view (names (whole l)) l.name w) (view (names (whole r)) r.name w)
    where
      go : Hit (names (whole l)) l.name w → Hit (names (whole r)) r.name w → compatible (renamed l fit.left a w) (renamed r fit.right b w) ≡ true
      go (miss p k) h = ap (λ x. compatible x (renamed r fit.right b w)) (p a) ∙ none-compatible (renamed r fit.right b w)
      go (hit v mv q) (miss p k) = ap (λ x. compatible (renamed l fit.left a w) x) (p b) ∙ compatible-none (renamed l fit.left a w)
      go (hit v mv q) (hit u mu q') = clash (subst (λ x. mem x columns ≡ true) q (mem-left (l.name v) (renamed_columns l) (renamed_columns r) (mem-map l.name v l.columns (meet v u mv mu (q ∙ sym q')).0))) n

  kl-only : Only columns (constant_row l)
  kl-only = only-left (renamed_columns l) (renamed_columns r) (constant_row l) (constant-only l fit.left)

  kr-only : Only columns (constant_row r)
  kr-only = only-sub (renamed_columns r) columns (constant_row r) (λ v m. mem-right v (renamed_columns l) (renamed_columns r) m) (constant-only r fit.right)

  module _ (a b : Row) where
    -- the rows under the new names, and the rows of their cells
    abbrev pa : Row
    pa = push (names (whole l)) l.name a

    abbrev pb : Row
    pb = push (names (whole r)) r.name b

    abbrev kl : Row
    kl = constant_row l

    abbrev kr : Row
    kr = constant_row r

    pub ca-in : (w : Bytes) → mem w columns ≡ true → pa w ≡ named (renamed_columns l) (cells l.columns a) w
    ca-in w m = sym (read_at l fit.left a w (in_left w m))

    pub cb-in : (w : Bytes) → mem w columns ≡ true → pb w ≡ named (renamed_columns r) (cells r.columns b) w
    cb-in w m = sym (read_at r fit.right b w (in_right w m))

    -- the tests of the merged tree's joins are the agreement of the four
    four-tests : (agree all-names pa kl && (agree all-names pb kr && agree all-names (merge pa kl) (merge pb kr))) ≡ agree_all columns (four (cells l.columns a) (cells r.columns b))
    four-tests =
        agree-four all-names pa kl pb kr
        ∙ (four-wider all-names columns pa kl pb kr columns-new (cover-right columns pa kl kl-only) (apart a b) (cover-right columns pa kr kr-only) (cover-left columns kl pb kl-only) (cover-left columns kl kr kl-only) (cover-right columns pb kr kr-only)
        ∙ four-cong columns pa kl pb kr _ _ ca-in cb-in)

    -- at the columns' names the union of the four is the union that the merged tree makes
    four-union : (w : Bytes) → mem w columns ≡ true → merge (merge pa kl) (merge pb kr) w ≡ merge_all (four (cells l.columns a) (cells r.columns b)) w
    unfolding merge merge_all
    four-union w m = or_assoc (pa w) (kl w) (or_cell (pb w) (kr w)) ∙ (λ i. or_cell (ca-in w m i) (or_cell (kl w) (or_cell (cb-in w m i) (sym (or-none (kr w)) i))))

    one-pair : (m : List Cell) → (agree all-names pa kl && (agree all-names pb kr && (agree all-names (merge pa kl) (merge pb kr) && same_row m (cells (merged_columns l r js) (merge (merge pa kl) (merge pb kr)))))) ≡ makes_row m (cells l.columns a) (cells r.columns b)
    unfolding makes
    one-pair m = and-three (agree all-names pa kl) (agree all-names pb kr) (agree all-names (merge pa kl) (merge pb kr)) _ ∙ ap₂ ◌&&◌ four-tests (ap (same_row m) (cells_in _ _ (merged_columns l r js) (λ w k. four-union w (merged-in l r js w k))))

  module _ (m : List Cell) where
    abbrev hits : Row → ℕ
    hits s = tick (same_row m (cells (merged_columns l r js) s))

    as-total : count same_row m (answer (merged_columns l r js) g (merged l r js)) ≡ total hits (eval g (join (renamed_pattern l) (renamed_pattern r)))
    unfolding eval merged
    as-total =
        count-rows (merged_columns l r js) m g (project (merged_columns l r js) (join (renamed_pattern l) (renamed_pattern r)))
        ∙ (total-map hits (cut (merged_columns l r js)) (eval g (join (renamed_pattern l) (renamed_pattern r)))
        ∙ total-cong _ _ (eval g (join (renamed_pattern l) (renamed_pattern r))) (λ s. ap (λ x. tick (same_row m x)) (cells_cut (merged_columns l r js) s)))

    -- what a row s of the left pattern adds
    from-left : Row → ℕ
    from-left s = total (λ t. cond (agree all-names s t) (hits (merge s t)) 0) (eval g (renamed_pattern r))

    -- a row of the left tree adds one for each row of the right tree that makes m with it
    left-row : (a : Row) → cond (agree all-names (pa a a) (constant_row l)) (from-left (merge (pa a a) (constant_row l))) 0 ≡ total (λ b. tick (makes_row m (cells l.columns a) (cells r.columns b))) (eval g r.inner)
    unfolding from-left
    left-row a =
        ap (λ n. cond (agree all-names (pa a a) (constant_row l)) n 0) (side-sum r fit.right (λ t. cond (agree all-names (merge (pa a a) (constant_row l)) t) (hits (merge (merge (pa a a) (constant_row l)) t)) 0) all-names g right_new)
        ∙ (sym (total-cond (agree all-names (pa a a) (constant_row l)) _ (eval g r.inner))
        ∙ total-cong _ _ (eval g r.inner) (λ b. cond-three (agree all-names (pa a b) (constant_row l)) (agree all-names (pb a b) (constant_row r)) (agree all-names (merge (pa a b) (constant_row l)) (merge (pb a b) (constant_row r))) _ ∙ ap tick (one-pair a b m)))

    sum-total : sum (as_single g l) (as_single g r) (merged_columns l r js) m ≡ total (λ a. total (λ b. tick (makes_row m (cells l.columns a) (cells r.columns b))) (eval g r.inner)) (eval g l.inner)
    unfolding sum
    sum-total =
        sum-pairs (makes_row m) (rows g l) (rows g r)
        ∙ (ap₂ (λ xs ys. total (λ x. total (λ y. tick (makes_row m x y)) ys) xs) (rows_eq g l) (rows_eq g r)
        ∙ (total-map _ (cells l.columns) (eval g l.inner) ∙ total-cong _ _ (eval g l.inner) (λ a. total-map (λ y. tick (makes_row m (cells l.columns a) y)) (cells r.columns) (eval g r.inner))))

    -- the merged tree's answer has each row as often as it has to
    pub merged-count : count same_row m (answer (merged_columns l r js) g (merged l r js)) ≡ sum (as_single g l) (as_single g r) (merged_columns l r js) m
    unfolding from-left
    merged-count =
        as-total
        ∙ (join-sum hits all-names g (renamed_pattern l) (renamed_pattern r) (sub-append (scope_of (renamed_pattern l)) (scope_of (renamed_pattern r)) all-names (λ w k. left-new w (renamed-scope l fit.left w k)) (λ w k. right_new w (renamed-scope r fit.right w k)))
        ∙ (side-sum l fit.left from-left all-names g left-new
        ∙ (total-cong _ _ (eval g l.inner) left-row
        ∙ sym sum-total)))
