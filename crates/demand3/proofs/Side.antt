-- One side of a merge: its columns and constants under the new names, and the rows of its renamed pattern. Assumes nothing.
use mathlib.Core.Path.{◌≡◌, refl, sym, ◌∙◌, ap, ap₂, subst, fun_ext}
use mathlib.Core.Logic.{◌⊎◌, inl, inr}
use mathlib.Core.Bool.{true, cond, and-true}
use mathlib.Core.List.{List, [], ◌∷◌, ◌++◌, map}
use mathlib.Core.Option.{none, some}
use Prim.Native.Nat.{ℕ, zero, suc, ◌<◌}
use native.Mathlib.Nat.{add-zero}
use native.Mathlib.Omega.{arith}
use lib.ListN.{length}
use Rattle.text.specs.Text.{Bytes}
use Rattle.algebra.specs.Tree.{Triple, Pattern, join, values, always}
use Rattle.algebra.specs.Valid.{mem}
use Rattle.scoping.specs.Variables.{variables_in_pattern, scope_of}
use Rattle.scoping.specs.ScopedOrHidden.{names_with}
use Rattle.scoping.specs.Rename.{rename_in_graph_pattern}
use Rattle.scoping.specs.Premises.{inside}
use Rattle.scoping.proofs.Positions.{inside-first, inside-rest}
use Rattle.scoping.specs.bridge.Sets.{Sub}
use Rattle.counting.specs.Bag.{total}
use Rattle.counting.specs.Row.{Cell, or_cell, Row, empty, merge, cut, agree, cells, named, one_term, cell}
use Rattle.counting.specs.Condition.{passes}
use Rattle.counting.specs.Scope.{names}
use Rattle.counting.specs.Answer.{unions, line_rows, eval, answer}
use Rattle.scoping.proofs.Basics.{clash, either, mem-nil, mem-here, mem-there, mem-cases, mem-left, mem-right, sub-append, mem-map, mem-unmap, map-map}
use Rattle.counting.proofs.Every.{every-imp}
use Rattle.counting.proofs.Sums.{total-cong, total-every, total-map, total-each, total-when}
use Rattle.counting.proofs.Only.{Only, only-sub, only-named, eval-only, compatible-none, agree_of}
use Rattle.counting.proofs.Push.{push, push-named, push-cut-at, one_term-push}
use Rattle.counting.proofs.Rename.{scope-in, scope-renamed, eval-renamed}
use Rattle.counting.proofs.Columns.{cells_cut, named-cells}
use Rattle.counting.proofs.Wider.{agree-both}
use Rattle.counting.proofs.Laws.{unions-sum}
use Rattle.merging.specs.Sides.{Constant, Side, column_at, constant_columns, constant_terms, bind_constants, renamed_columns, renamed_pattern}
use Rattle.merging.proofs.Positions.{positions-in}
use Rattle.demand3.specs.bridge.Sides.{whole}
use Rattle.demand3.specs.Expected.{Single}
use Rattle.demand3.proofs.Fit.{SideFit}

-- ---- a side's answer under its own new names

-- its constant list as a row (a constant is an IRI or a literal, never `-`)
abbrev pub constant_row : Side → Row
constant_row s = named (constant_columns (renamed_columns s) s.constants) (map cell (constant_terms s.constants))

abbrev pub rows : List Triple → Side → List (List Cell)
rows g s = answer s.columns g (whole s)

abbrev pub as_single : List Triple → Side → Single
as_single g s = record { rows = rows g s; names = renamed_columns s; constants = constant_row s }

-- ---- positions

at_map : (f : Bytes → Bytes) (cs : List Bytes) (i : ℕ) → i < length cs → column_at (map f cs) i ≡ f (column_at cs i)
at_map f [] i h = absurd (omega arith)
at_map f (c ∷ cs) zero h = refl
at_map f (c ∷ cs) (suc i) h = at_map f cs i (omega arith)

-- a column, or no name at all, stands at a position
at-or : (cs : List Bytes) (i : ℕ) → (mem (column_at cs i) cs ≡ true) ⊎ (column_at cs i ≡ [])
at-or [] i = inr refl
at-or (c ∷ cs) zero = inl (mem-here c cs)
at-or (c ∷ cs) (suc i) = either (λ m. inl (mem-there (column_at cs i) c cs m)) (λ e. inr e) (at-or cs i)

-- so a name among the columns at positions is a column, wherever the positions are
pub positions-named : {A : Type 0} (cs : List Bytes) (pos : A → ℕ) (js : List A) (v : Bytes) → (v ≡ [] → ⊥) → mem v (map (λ j. column_at cs (pos j)) js) ≡ true → mem v cs ≡ true
positions-named cs pos [] v n m = mem-nil v m
positions-named cs pos (j ∷ js) v n m = either
    (λ e. either (λ k. ap (λ x. mem x cs) e ∙ k) (λ k. absurd (n (e ∙ k))) (at-or cs (pos j)))
    (positions-named cs pos js v n)
    (mem-cases v (column_at cs (pos j)) _ m)

positions-map : {A : Type 0} (f : Bytes → Bytes) (cs : List Bytes) (pos : A → ℕ) (js : List A) → inside cs (map pos js) ≡ true → map (λ j. column_at (map f cs) (pos j)) js ≡ map f (map (λ j. column_at cs (pos j)) js)
positions-map f cs pos [] h = refl
positions-map f cs pos (j ∷ js) h = ap₂ ◌∷◌ (at_map f cs (pos j) (inside-first cs (pos j) (map pos js) h)) (positions-map f cs pos js (inside-rest cs (pos j) (map pos js) h))

pub map-sub : (f : Bytes → Bytes) (xs ys : List Bytes) → Sub xs ys → Sub (map f xs) (map f ys)
map-sub f xs ys s w m = let t = mem-unmap f w xs m in subst (λ x. mem x (map f ys) ≡ true) (sym t.2) (mem-map f t.0 ys (s t.0 t.1))

-- ---- sums over joined rows, over any list W that has the names in scope

pub join-sum : (F : Row → ℕ) (W : List Bytes) (g : List Triple) (p q : Pattern) → Sub (scope_of p ++ scope_of q) W → total F (eval g (join p q)) ≡ total (λ a. total (λ b. cond (agree W a b) (F (merge a b)) 0) (eval g q)) (eval g p)
unfolding eval passes
join-sum F W g p q s =
    total-each F (λ a. unions (scope_of p ++ scope_of q) always a (eval g q)) (eval g p)
    ∙ total-every _ _ (every-imp (λ a oa. unions-sum F (scope_of p ++ scope_of q) always a (eval g q) ∙ total-cong _ _ (eval g q) (λ b. ap (λ c. cond c (F (merge a b)) 0) (and-true (agree (scope_of p ++ scope_of q) a b) ∙ sym (agree-both W (scope_of p) (scope_of q) a b s oa)))) (eval-only g p))

pub or-none : (x : Cell) → or_cell x none ≡ x
or-none none = refl
or-none (some a) = refl

merge-empty : (a : Row) → merge a empty ≡ a
unfolding merge
merge-empty a = fun_ext (λ w. or-none (a w))

-- a line that gives no variable two terms is one row
line-sum : (F : Row → ℕ) (g : List Triple) (cs xs : List Bytes) → one_term cs (map cell xs) ≡ true → total F (eval g (values cs (xs ∷ []))) ≡ F (named cs (map cell xs))
unfolding eval line_rows total
line-sum F g cs xs h =
    total-each F (line_rows cs) (xs ∷ [])
    ∙ (add-zero (total F (line_rows cs xs))
    ∙ (total-when F (one_term cs (map cell xs)) (named cs (map cell xs)) ∙ ap (λ c. cond c (F (named cs (map cell xs))) 0) h))

constants-sum : (F : Row → ℕ) (W : List Bytes) (g : List Triple) (p : Pattern) (cs : List Bytes) (ks : List Constant) → Sub (scope_of p ++ constant_columns cs ks) W → one_term (constant_columns cs ks) (map cell (constant_terms ks)) ≡ true
    → total F (eval g (bind_constants p cs ks)) ≡ total (λ a. cond (agree W a (named (constant_columns cs ks) (map cell (constant_terms ks)))) (F (merge a (named (constant_columns cs ks) (map cell (constant_terms ks))))) 0) (eval g p)
unfolding bind_constants named variables_in_pattern
constants-sum F W g p cs [] s h = total-cong F _ (eval g p) (λ a. sym (ap₂ (λ c r. cond c (F r) 0) (agree_of W a empty (λ w. compatible-none (a w))) (merge-empty a)))
constants-sum F W g p cs (k ∷ ks) s h =
    join-sum F W g p (values (constant_columns cs (k ∷ ks)) (constant_terms (k ∷ ks) ∷ [])) s
    ∙ total-cong _ _ (eval g p) (λ a. line-sum (λ b. cond (agree W a b) (F (merge a b)) 0) g (constant_columns cs (k ∷ ks)) (constant_terms (k ∷ ks)) h)

bind-scope : (p : Pattern) (cs : List Bytes) (ks : List Constant) → Sub (scope_of (bind_constants p cs ks)) (scope_of p ++ constant_columns cs ks)
unfolding bind_constants variables_in_pattern
bind-scope p cs [] v m = mem-left v (scope_of p) [] m
bind-scope p cs (k ∷ ks) v m = m

-- a side's answer, over the rows of its inner pattern
pub rows_eq : (g : List Triple) (s : Side) → rows g s ≡ map (cells s.columns) (eval g s.inner)
unfolding answer eval
rows_eq g s = map-map (cells s.columns) (cut s.columns) (eval g s.inner) ∙ ap (λ k. map k (eval g s.inner)) (fun_ext (cells_cut s.columns))

module _ (s : Side) (fit : SideFit s) where
  -- a row of the inner pattern under the new names
  abbrev pub renamed : Row → Row
  renamed = push (names (whole s)) s.name

  -- the new names of all of the side's names
  abbrev pub new_names : List Bytes
  new_names = map s.name (names (whole s))

  pub columns-in : Sub s.columns (names (whole s))
  unfolding names_with
  columns-in v m = mem-left v s.columns (names s.inner) m

  pub inner-in : Sub (names s.inner) (names (whole s))
  unfolding names_with
  inner-in v m = mem-right v s.columns (names s.inner) m

  -- a name of the side is not empty
  pub not-empty : (v : Bytes) → mem v (names (whole s)) ≡ true → v ≡ [] → ⊥
  not-empty v m e = clash (ap (λ x. mem x (names (whole s))) (sym e) ∙ m) fit.no_empty

  pub renamed-columns-in : Sub (renamed_columns s) new_names
  renamed-columns-in = map-sub s.name s.columns (names (whole s)) columns-in

  pub constant-columns : constant_columns (renamed_columns s) s.constants ≡ map s.name (constant_columns s.columns s.constants)
  constant-columns = positions-map s.name s.columns (λ k. k.position) s.constants fit.constant_inside

  pub constant-columns-in : Sub (constant_columns s.columns s.constants) s.columns
  constant-columns-in = positions-in s.columns (λ k. k.position) s.constants fit.constant_inside

  new-constant-columns-in : Sub (constant_columns (renamed_columns s) s.constants) (renamed_columns s)
  new-constant-columns-in v m = map-sub s.name _ s.columns constant-columns-in v (subst (λ l. mem v l ≡ true) constant-columns m)

  -- the row of constants binds only columns
  pub constant-only : Only (renamed_columns s) (constant_row s)
  constant-only = only-sub _ (renamed_columns s) (constant_row s) new-constant-columns-in (only-named (constant_columns (renamed_columns s) s.constants) (map cell (constant_terms s.constants)))

  pub inner-scope : Sub (scope_of (rename_in_graph_pattern s.name s.inner)) new_names
  inner-scope v m = map-sub s.name (scope_of s.inner) (names (whole s)) (scope-in (names (whole s)) s.inner inner-in) v (subst (λ l. mem v l ≡ true) (scope-renamed (names (whole s)) s.name fit.apart fit.variables s.inner inner-in) m)

  bound-scope : Sub (scope_of (rename_in_graph_pattern s.name s.inner) ++ constant_columns (renamed_columns s) s.constants) new_names
  bound-scope = sub-append (scope_of (rename_in_graph_pattern s.name s.inner)) (constant_columns (renamed_columns s) s.constants) new_names inner-scope (λ v m. renamed-columns-in v (new-constant-columns-in v m))

  -- the variables in scope of the renamed pattern are new names
  pub renamed-scope : Sub (scope_of (renamed_pattern s)) new_names
  unfolding renamed_pattern
  renamed-scope v m = bound-scope v (bind-scope (rename_in_graph_pattern s.name s.inner) (renamed_columns s) s.constants v m)

  -- the sum over the rows of the renamed pattern, over the rows of the inner pattern
  pub side-sum : (F : Row → ℕ) (W : List Bytes) (g : List Triple) → Sub new_names W → total F (eval g (renamed_pattern s)) ≡ total (λ a. cond (agree W (renamed a) (constant_row s)) (F (merge (renamed a) (constant_row s))) 0) (eval g s.inner)
  unfolding renamed_pattern
  side-sum F W g i =
      constants-sum F W g (rename_in_graph_pattern s.name s.inner) (renamed_columns s) s.constants (λ v m. i v (bound-scope v m)) once-new
      ∙ (ap (total at) (eval-renamed (names (whole s)) s.name fit.apart fit.variables g s.inner inner-in) ∙ total-map at renamed (eval g s.inner))
    where
      at : Row → ℕ
      at a = cond (agree W a (constant_row s)) (F (merge a (constant_row s))) 0

      once-new : one_term (constant_columns (renamed_columns s) s.constants) (map cell (constant_terms s.constants)) ≡ true
      once-new =
          ap (λ l. one_term l (map cell (constant_terms s.constants))) constant-columns
          ∙ (one_term-push (names (whole s)) s.name fit.apart (constant_columns s.columns s.constants) (map cell (constant_terms s.constants)) (λ v m. columns-in v (constant-columns-in v m)) ∙ fit.constant_once)

  -- at a name that only columns become, the row of a row's cells is the row under the new names
  pub read_at : (a : Row) (w : Bytes) → ((v : Bytes) → mem v (names (whole s)) ≡ true → s.name v ≡ w → mem v s.columns ≡ true) → named (renamed_columns s) (cells s.columns a) w ≡ renamed a w
  read_at a w h =
      ap (λ k. k w) (sym (push-named (names (whole s)) s.name fit.apart s.columns (cells s.columns a) columns-in) ∙ ap renamed (named-cells s.columns a))
      ∙ push-cut-at (names (whole s)) s.name fit.apart s.columns a w h

  -- only a column becomes the new name of a column
  pub only-columns : (w : Bytes) → mem w (renamed_columns s) ≡ true → (v : Bytes) → mem v (names (whole s)) ≡ true → s.name v ≡ w → mem v s.columns ≡ true
  only-columns w m v k q = let t = mem-unmap s.name w s.columns m in subst (λ x. mem x s.columns ≡ true) (fit.apart t.0 v (columns-in t.0 t.1) k (sym (q ∙ t.2))) t.1
