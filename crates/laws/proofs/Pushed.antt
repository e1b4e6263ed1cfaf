-- The rows of a tree after a push of constants, from the rows before. Assumes nothing.
use mathlib.Core.Path.{◌≡◌, refl, sym, ◌∙◌, ap, ap₂, subst}
use mathlib.Core.Bool.{Bool, true, false, cond, not, ◌&&◌}
use mathlib.Core.List.{List, [], ◌∷◌, map}
use mathlib.Core.Option.{none, some}
use Prim.Native.Nat.{ℕ, zero, suc, ◌+◌, ◌*◌, ◌<◌}
use native.Mathlib.Nat.{mul-one, mul-zero}
use native.Mathlib.Omega.{arith}
use lib.ListN.{length}
use Rattle.text.specs.Text.{Bytes, same}
use Rattle.text.proofs.Basics.{and_left, and_right, and_both, same-eq, same_refl}
use Rattle.algebra.specs.Tree.{Triple, project}
use Rattle.scoping.specs.Sets.{all, keep}
use Rattle.algebra.specs.Valid.{mem, different}
use Rattle.counting.specs.Bag.{once, total, tick, count}
use Rattle.counting.specs.Row.{Cell, compatible, or_cell, Row, bind, merge, cut, agree, cells, named, cell, same_row}
use Rattle.counting.specs.Scope.{names}
use Rattle.counting.specs.Answer.{eval, answer}
use Rattle.merging.specs.Sides.{Constant, Side, column_at, constant_columns, constant_terms, renamed_pattern, free_columns}
use Rattle.merging.proofs.Positions.{at_in}
use Rattle.demand3.specs.bridge.Sides.{whole}
use Rattle.demand3.proofs.Side.{constant_row, rows, or-none, rows_eq, renamed, new_names, columns-in, constant-columns, constant-columns-in, side-sum}
use Rattle.scoping.specs.Premises.{inside, different_positions}
use Rattle.demand3.proofs.Fit.{SideFit}
use Rattle.scoping.proofs.Basics.{clash, both_ways, not-true, all-at, all_of, mem-here, mem-there, map-map}
use Rattle.counting.proofs.Every.{Every, done, more, map-every}
use Rattle.counting.proofs.Only.{only-named, compatible-none}
use Rattle.counting.proofs.Sums.{total-cong, total-map, cond-tick, same_row-refl, same_row-eq, sum-once}
use Rattle.counting.proofs.Push.{push_at, push-named, agree-push}
use Rattle.counting.proofs.Columns.{cells_cut, count-rows}
use Rattle.demand3.proofs.Fits.{columns-at-different, found_at}
use Rattle.algebra.proofs.Lines.{not-no}
use Rattle.scoping.proofs.Positions.{inside-first, inside-rest}
use Rattle.merging.specs.Request.{Projection, positions}
use Rattle.merging.specs.Names.{from, is_at}
use Rattle.merging.proofs.Lists.{is_term}
use Rattle.demand3.proofs.Expected.{term-cell}
use Rattle.demand3.proofs.MergedColumns.{free-by-position}
use Rattle.demand3.specs.Unmatched.{cell_at}
use Rattle.demand3.proofs.Minus.{at_cells}
use Rattle.laws.specs.Pushed.{free_positions, cut_to_free, agrees_with}

-- ---- a row against the row of constants

bind-here : (c t : Bytes) (r : Row) → bind c t r c ≡ some t
unfolding bind
bind-here c t r = ap (λ (b : Bool). cond b (some t) (r c)) (same_refl c)

bind-other : (c t : Bytes) (r : Row) (v : Bytes) → same v c ≡ false → bind c t r v ≡ r v
unfolding bind
bind-other c t r v e = ap (λ (b : Bool). cond b (some t) (r v)) e

agree-bind : (U : List Bytes) (a : Row) (c t : Bytes) (r : Row) → mem c U ≡ true → r c ≡ none → agree U a (bind c t r) ≡ (compatible (a c) (some t) && agree U a r)
unfolding agree
agree-bind U a c t r m n = both_ways (all (λ v. compatible (a v) (bind c t r v)) U) (compatible (a c) (some t) && all (λ v. compatible (a v) (r v)) U)
    (λ h. and_both (compatible (a c) (some t)) (all (λ v. compatible (a v) (r v)) U)
    (sym (ap (compatible (a c)) (bind-here c t r)) ∙ all-at (λ v. compatible (a v) (bind c t r v)) U h c m)
    (all_of (λ v. compatible (a v) (r v)) U (λ v k. forth v (same v c) refl (all-at (λ v. compatible (a v) (bind c t r v)) U h v k))))
    (λ h. all_of (λ v. compatible (a v) (bind c t r v)) U (λ v k. back v (same v c) refl (and_left (compatible (a c) (some t)) (all (λ v. compatible (a v) (r v)) U) h) (all-at (λ v. compatible (a v) (r v)) U (and_right (compatible (a c) (some t)) (all (λ v. compatible (a v) (r v)) U) h) v k)))
  where
    forth : (v : Bytes) (b : Bool) → same v c ≡ b → compatible (a v) (bind c t r v) ≡ true → compatible (a v) (r v) ≡ true
    forth v true e h = ap (λ (x : Cell). compatible (a v) x) (ap r (same-eq v c e) ∙ n) ∙ compatible-none (a v)
    forth v false e h = sym (ap (compatible (a v)) (bind-other c t r v e)) ∙ h

    back : (v : Bytes) (b : Bool) → same v c ≡ b → compatible (a c) (some t) ≡ true → compatible (a v) (r v) ≡ true → compatible (a v) (bind c t r v) ≡ true
    back v true e h k = ap (λ (w : Bytes). compatible (a w) (bind c t r w)) (same-eq v c e) ∙ ap (compatible (a c)) (bind-here c t r) ∙ h
    back v false e h k = ap (compatible (a v)) (bind-other c t r v e) ∙ k

agree-named : (U : List Bytes) (a : Row) (C : Constant → Bytes) (ks : List Constant) → different (map C ks) ≡ true → ((k : Bytes) → mem k (map C ks) ≡ true → mem k U ≡ true) → all is_term ks ≡ true
    → agree U a (named (map C ks) (map cell (constant_terms ks))) ≡ all (λ k. compatible (a (C k)) (some k.term)) ks
unfolding agree named all different
agree-named U a C [] d s h = all_of (λ v. compatible (a v) none) U (λ v m. compatible-none (a v))
agree-named U a C (k ∷ ks) d s h =
    ap (λ (x : Cell). agree U a (named (C k ∷ map C ks) (x ∷ map cell (constant_terms ks)))) (term-cell k.term (and_left (is_term k) (all is_term ks) h))
    ∙ agree-bind U a (C k) k.term (named (map C ks) (map cell (constant_terms ks))) (s (C k) (mem-here (C k) (map C ks)))
    (only-named (map C ks) (map cell (constant_terms ks)) (C k) (not-no (mem (C k) (map C ks)) (and_left (not (mem (C k) (map C ks))) (different (map C ks)) d)))
    ∙ ap (λ (b : Bool). compatible (a (C k)) (some k.term) && b) (agree-named U a C ks (and_right (not (mem (C k) (map C ks))) (different (map C ks)) d) (λ v m. s v (mem-there v (C k) (map C ks) m)) (and_right (is_term k) (all is_term ks) h))

-- ---- positions

-- inside, and without a constant

Free : ℕ → List ℕ → ℕ → Type 0
Free n ps i = (i < n) × (is_at i ps ≡ false)

free-every : (ps : List ℕ) (n k : ℕ) → Every (Free (k + n) ps) (keep (λ i. not (is_at i ps)) (from k n))
unfolding keep from Free
free-every ps zero k = done
free-every ps (suc n) k = here (is_at k ps) refl (subst (λ (j : ℕ). Every (Free j ps) (keep (λ i. not (is_at i ps)) (from (suc k) n))) (let e : suc k + n ≡ k + suc n = omega arith in e) (free-every ps n (suc k)))
  where
    rest : List ℕ
    rest = keep (λ i. not (is_at i ps)) (from (suc k) n)

    here : (b : Bool) → is_at k ps ≡ b → Every (Free (k + suc n) ps) rest → Every (Free (k + suc n) ps) (cond (not b) (k ∷ rest) rest)
    here true e r = r
    here false e r = more {x = k} (omega arith, e) r

module _ (s : Side) (fit : SideFit s) (columns_once : different s.columns ≡ true) (positions-once : different_positions (positions s.constants) ≡ true) (terms : all is_term s.constants ≡ true) where
  abbrev cs : List Bytes
  cs = s.columns

  abbrev ks : List Constant
  ks = s.constants

  abbrev C : Constant → Bytes
  C k = column_at cs k.position

  -- the row of constants under the old names
  abbrev old : Row
  old = named (constant_columns cs ks) (map cell (constant_terms ks))

  constants-pushed : constant_row s ≡ renamed s fit old
  constants-pushed =
      ap (λ (l : List Bytes). named l (map cell (constant_terms ks))) (constant-columns s fit)
      ∙ sym (push-named (names (whole s)) s.name fit.apart (constant_columns cs ks) (map cell (constant_terms ks)) (λ v m. columns-in s fit v (constant-columns-in s fit v m)))

  abbrev project-of : Projection
  project-of = record { columns = cs; inner = s.inner }

  with-constants : (a : Row) (js : List Constant) → inside cs (positions js) ≡ true → all (λ k. compatible (a (C k)) (some k.term)) js ≡ agrees_with js (cells cs a)
  unfolding agrees_with all
  with-constants a [] i = refl
  with-constants a (k ∷ js) i =
      ap₂ ◌&&◌
      (ap (λ (x : Cell). compatible x (some k.term)) (sym (at_cells cs a k.position (inside-first cs k.position (positions js) i))))
      (with-constants a js (inside-rest cs k.position (positions js) i))

  agree-is : (a : Row) → agree (new_names s fit) (renamed s fit a) (constant_row s) ≡ agrees_with ks (cells cs a)
  agree-is a =
      ap (agree (new_names s fit) (renamed s fit a)) constants-pushed
      ∙ agree-push (names (whole s)) s.name fit.apart (names (whole s)) a old (λ v m. m)
      ∙ agree-named (names (whole s)) a C ks (columns-at-different cs columns_once (λ k. k.position) ks fit.constant_inside positions-once) (λ v m. columns-in s fit v (constant-columns-in s fit v m)) terms
      ∙ with-constants a ks fit.constant_inside

  -- the remaining columns, by position
  pub free-are : free_columns s ≡ map (λ i. s.name (column_at cs i)) (free_positions project-of ks)
  unfolding free_columns free_positions
  free-are = free-by-position s.name (λ i. s.name (column_at cs i)) ks cs 0 (λ i h. ap (λ (j : ℕ). s.name (column_at cs j)) (let e : i ≡ 0 + i = omega arith in e))

  free-cell : (a : Row) (i : ℕ) → i < length cs → is_at i (positions ks) ≡ false → merge (renamed s fit a) (constant_row s) (s.name (column_at cs i)) ≡ cell_at (cells cs a) i
  unfolding merge is_at
  free-cell a i h f =
      let c = column_at cs i in
      let m : mem c (names (whole s)) ≡ true = columns-in s fit c (at_in cs i h) in
      ap₂ or_cell (push_at (names (whole s)) s.name fit.apart a c m)
      (ap (λ (r : Row). r (s.name c)) constants-pushed ∙ push_at (names (whole s)) s.name fit.apart old c m
      ∙ only-named (constant_columns cs ks) (map cell (constant_terms ks)) c (not-true (mem c (constant_columns cs ks)) (λ t. clash (found_at cs columns_once (λ k. k.position) i h ks fit.constant_inside t) f)))
      ∙ or-none (a c)
      ∙ sym (at_cells cs a i h)

  free-cells : (a : Row) → cells (free_columns s) (merge (renamed s fit a) (constant_row s)) ≡ cut_to_free project-of ks (cells cs a)
  unfolding cut_to_free free_positions Free
  free-cells a =
      ap (λ (l : List Bytes). cells l (merge (renamed s fit a) (constant_row s))) free-are
      ∙ map-map (merge (renamed s fit a) (constant_row s)) (λ i. s.name (column_at cs i)) (free_positions project-of ks)
      ∙ map-every (λ i. merge (renamed s fit a) (constant_row s) (s.name (column_at cs i))) (cell_at (cells cs a)) (free-every (positions ks) (length cs) 0) (λ i f. free-cell a i (let x = f.0 in omega arith) f.1)

  module _ (g : List Triple) (row : List Cell) where
    hits : Row → ℕ
    hits t = tick (same_row row (cells (free_columns s) t))

    takes : List Cell → Bool
    takes y = agrees_with ks y && same_row row (cut_to_free project-of ks y)

    weigh : (c : Bool) (n : ℕ) → n * tick c ≡ cond c n 0
    weigh true n = mul-one n
    weigh false n = mul-zero n

    -- each row's count after the push
    pub push-count : count same_row row (answer (free_columns s) g (project (free_columns s) (renamed_pattern s)))
        ≡ total (λ y. cond (agrees_with ks y && same_row row (cut_to_free project-of ks y)) (count same_row y (rows g s)) 0) (once same_row (rows g s))
    unfolding eval hits takes
    push-count =
        count-rows (free_columns s) row g (project (free_columns s) (renamed_pattern s))
        ∙ total-map hits (cut (free_columns s)) (eval g (renamed_pattern s))
        ∙ total-cong _ hits (eval g (renamed_pattern s)) (λ t. ap (λ (x : List Cell). tick (same_row row x)) (cells_cut (free_columns s) t))
        ∙ side-sum s fit hits (new_names s fit) g (λ v m. m)
        ∙ total-cong _ (λ a. tick (takes (cells cs a))) (eval g s.inner) (λ a. cond-tick (agree (new_names s fit) (renamed s fit a) (constant_row s)) (same_row row (cells (free_columns s) (merge (renamed s fit a) (constant_row s)))) ∙ ap₂ (λ (b : Bool) (x : List Cell). tick (b && same_row row x)) (agree-is a) (free-cells a))
        ∙ sym (ap (total (λ y. tick (takes y))) (rows_eq g s) ∙ total-map (λ y. tick (takes y)) (cells cs) (eval g s.inner))
        ∙ sym (sum-once same_row same_row-refl same_row-eq (λ y. tick (takes y)) (rows g s))
        ∙ total-cong _ _ (once same_row (rows g s)) (λ y. weigh (takes y) (count same_row y (rows g s)))
