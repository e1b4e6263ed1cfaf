-- Where two sides fit, two rows agree under the new names exactly if the two cells of every join pair fit. Assumes nothing.
use mathlib.Core.Path.{◌≡◌, refl, sym, ◌∙◌, ap, ap₂}
use mathlib.Core.Logic.{◌⊎◌, inl, inr}
use mathlib.Core.Bool.{Bool, true, false, ◌&&◌, false≢true}
use mathlib.Core.List.{List, [], ◌∷◌, ◌++◌, map}
use Rattle.text.specs.Text.{Bytes, same}
use Rattle.text.proofs.Basics.{and_left, and_right, and_both, same_refl, same-eq}
use Rattle.algebra.specs.Valid.{mem}
use Rattle.scoping.specs.Sets.{all}
use Rattle.scoping.specs.Premises.{inside}
use Rattle.scoping.specs.bridge.Premises.{is_pair}
use Rattle.scoping.proofs.Sets.{eq-same}
use Rattle.counting.specs.Row.{compatible, Row, agree, cells, named}
use Rattle.counting.specs.Scope.{names}
use Rattle.scoping.proofs.Basics.{split, either, both_ways, or_cases, or_inl, or_inr, mem-left, mem-map, mem-unmap, all-at, all_of}
use Rattle.counting.proofs.Only.{only-named, compatible-none, none-compatible}
use Rattle.counting.proofs.Push.{push_at}
use Rattle.merging.specs.Sides.{Pair, Side, column_at, renamed_columns, left_join_variables, lefts, rights}
use Rattle.demand3.specs.bridge.Sides.{whole, right_join_variables}
use Rattle.demand3.proofs.Fit.{SideFit, Fit}
use Rattle.merging.proofs.Positions.{positions-in}
use Rattle.demand3.proofs.Side.{columns-in, read_at, only-columns}
use Rattle.demand3.proofs.Merge.{pair-in}

-- a test holds of every line's two names exactly if it does of every pair
module _ (test : Bytes → Bytes → Bool) (L R : Pair → Bytes) where
  pair-passes : (js : List Pair) → all (λ j. test (L j) (R j)) js ≡ true → (u v : Bytes) → is_pair (map L js) (map R js) u v ≡ true → test u v ≡ true
  unfolding all is_pair
  pair-passes [] h u v p = absurd (false≢true p)
  pair-passes (j ∷ js) h u v p = either
      (λ e. sym (ap₂ test (same-eq (L j) u (and_left (same (L j) u) (same (R j) v) e)) (same-eq (R j) v (and_right (same (L j) u) (same (R j) v) e))) ∙ and_left (test (L j) (R j)) (all (λ i. test (L i) (R i)) js) h)
      (pair-passes js (and_right (test (L j) (R j)) (all (λ i. test (L i) (R i)) js) h) u v)
      (or_cases (same (L j) u && same (R j) v) (is_pair (map L js) (map R js) u v) p)

  pairs-pass : (js : List Pair) → ((u v : Bytes) → is_pair (map L js) (map R js) u v ≡ true → test u v ≡ true) → all (λ j. test (L j) (R j)) js ≡ true
  unfolding all is_pair
  pairs-pass [] h = refl
  pairs-pass (j ∷ js) h = and_both (test (L j) (R j)) (all (λ i. test (L i) (R i)) js)
      (h (L j) (R j) (or_inl (same (L j) (L j) && same (R j) (R j)) (is_pair (map L js) (map R js) (L j) (R j)) (and_both (same (L j) (L j)) (same (R j) (R j)) (same_refl (L j)) (same_refl (R j)))))
      (pairs-pass js (λ u v p. h u v (or_inr (same (L j) u && same (R j) v) (is_pair (map L js) (map R js) u v) p)))

-- the row of a row's cells has, under a column's new name, the column's cell
column-cell : (s : Side) → SideFit s → (a : Row) (v : Bytes) → mem v s.columns ≡ true → named (renamed_columns s) (cells s.columns a) (s.name v) ≡ a v
column-cell s fit a v m =
    read_at s fit a (s.name v) (only-columns s fit (s.name v) (mem-map s.name v s.columns m))
    ∙ push_at (names (whole s)) s.name fit.apart a v (columns-in s fit v m)

-- rows agree under the new names exactly if the cells of every join pair fit
pub agree-on-pairs : (l r : Side) (js : List Pair) → Fit l r js → inside l.columns (lefts js) ≡ true → inside r.columns (rights js) ≡ true → (a b : Row)
    → agree (renamed_columns l ++ renamed_columns r) (named (renamed_columns l) (cells l.columns a)) (named (renamed_columns r) (cells r.columns b)) ≡ all (λ j. compatible (a (column_at l.columns j.left)) (b (column_at r.columns j.right))) js
unfolding agree
agree-on-pairs l r js fit left-inside right-inside a b = both_ways (all test columns) (all (λ j. compatible (a (column_at l.columns j.left)) (b (column_at r.columns j.right))) js)
    (λ h. pairs-pass (λ u v. compatible (a u) (b v)) (λ j. column_at l.columns j.left) (λ j. column_at r.columns j.right) js (λ u v p. from-names h u v p))
    (λ h. all_of test columns (λ w m. from-pairs h w (split (mem w (renamed_columns l))) (split (mem w (renamed_columns r)))))
  where
    columns : List Bytes
    columns = renamed_columns l ++ renamed_columns r

    test : Bytes → Bool
    test w = compatible (named (renamed_columns l) (cells l.columns a) w) (named (renamed_columns r) (cells r.columns b) w)

    from-names : all test columns ≡ true → (u v : Bytes) → is_pair (left_join_variables l js) (right_join_variables r js) u v ≡ true → compatible (a u) (b v) ≡ true
    from-names h u v p =
        let t = pair-in (left_join_variables l js) (right_join_variables r js) u v p in
        let mu : mem u l.columns ≡ true = positions-in l.columns (λ j. j.left) js left-inside u t.0 in
        let mv : mem v r.columns ≡ true = positions-in r.columns (λ j. j.right) js right-inside v t.1 in
        let e : l.name u ≡ r.name v = same-eq (l.name u) (r.name v) (fit.joined u v (columns-in l fit.left u mu) (columns-in r fit.right v mv) ∙ p) in
        sym (ap₂ compatible (column-cell l fit.left a u mu) (ap (named (renamed_columns r) (cells r.columns b)) e ∙ column-cell r fit.right b v mv))
        ∙ all-at test columns h (l.name u) (mem-left (l.name u) (renamed_columns l) (renamed_columns r) (mem-map l.name u l.columns mu))

    from-pairs : all (λ j. compatible (a (column_at l.columns j.left)) (b (column_at r.columns j.right))) js ≡ true → (w : Bytes) → (mem w (renamed_columns l) ≡ true) ⊎ (mem w (renamed_columns l) ≡ false) → (mem w (renamed_columns r) ≡ true) ⊎ (mem w (renamed_columns r) ≡ false) → test w ≡ true
    from-pairs h w (inr n) k = ap (λ x. compatible x (named (renamed_columns r) (cells r.columns b) w)) (only-named (renamed_columns l) (cells l.columns a) w n) ∙ none-compatible (named (renamed_columns r) (cells r.columns b) w)
    from-pairs h w (inl m) (inr n) = ap (λ x. compatible (named (renamed_columns l) (cells l.columns a) w) x) (only-named (renamed_columns r) (cells r.columns b) w n) ∙ compatible-none (named (renamed_columns l) (cells l.columns a) w)
    from-pairs h w (inl m) (inl k) =
        let t = mem-unmap l.name w l.columns m in
        let s = mem-unmap r.name w r.columns k in
        let p = sym (fit.joined t.0 s.0 (columns-in l fit.left t.0 t.1) (columns-in r fit.right s.0 s.1)) ∙ eq-same (l.name t.0) (r.name s.0) (sym t.2 ∙ s.2) in
        ap₂ compatible (ap (named (renamed_columns l) (cells l.columns a)) t.2 ∙ column-cell l fit.left a t.0 t.1) (ap (named (renamed_columns r) (cells r.columns b)) s.2 ∙ column-cell r fit.right b s.0 s.1)
        ∙ pair-passes (λ u v. compatible (a u) (b v)) (λ j. column_at l.columns j.left) (λ j. column_at r.columns j.right) js h t.0 s.0 p
