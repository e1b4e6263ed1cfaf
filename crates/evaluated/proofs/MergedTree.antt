-- A merged tree can be evaluated: it stays in the counting part, and its expressions name no variable that is neither in scope nor hidden. Assumes nothing.
use mathlib.Core.Path.{◌≡◌, refl, sym, ◌∙◌, ap, subst}
use mathlib.Core.Bool.{Bool, true, false, cond, not, ◌&&◌, false≢true}
use mathlib.Core.Logic.{◌⊎◌, inl, inr}
use mathlib.Core.List.{List, [], ◌∷◌, ◌++◌, map}
use Prim.Native.Nat.{ℕ, suc}
use lib.Dec.{eqb}
use lib.ListN.{length, get_or}
use Rattle.text.specs.Text.{Bytes}
use Rattle.text.proofs.Basics.{and_both}
use Rattle.algebra.specs.Tree.{Pattern, bgp, path, join, union, minus, leftjoin, filter, graph, extend, values, orderby, project, distinct, reduced, slice, group, service}
use Rattle.algebra.specs.Tree.{Condition, always, provided}
use Rattle.algebra.specs.Valid.{mem}
use Rattle.scoping.specs.Sets.{any, variables_of, aggregate_variables}
use Rattle.scoping.specs.ScopedOrHidden.{condition_vars, names_with, scoped_or_hidden}
use Rattle.scoping.specs.Rename.{rename_in_graph_pattern}
use Rattle.scoping.specs.Premises.{inside}
use Rattle.scoping.proofs.Sets.{mem-keep}
use Rattle.scoping.specs.bridge.Sets.{Sub}
use Rattle.scoping.proofs.Basics.{either, split, or_cases, mem-nil, mem-there, mem-eq, mem-cases, mem-left, mem-right, mem-append-cases, mem-map, mem-unmap, all-at, all_of}
use Rattle.counting.specs.Scope.{expression_vars, names}
use Rattle.counting.specs.Countable.{is_countable, extends_fresh, expressions_known}
use Rattle.merging.specs.Sides.{Pair, Constant, Side, column_at, constant_columns, bind_constants, without_constants, renamed_columns, renamed_pattern, free_columns, left_join_variables, merged_columns, merged}
use Rattle.demand3.specs.bridge.Sides.{whole}
use Rattle.demand3.proofs.Fit.{SideFit, Fit}
use Rattle.merging.proofs.Positions.{positions-in}
use Rattle.demand3.proofs.Side.{map-sub}
use Rattle.evaluating.specs.Evaluate.{is_evaluable}
use Rattle.evaluating.proofs.Orders.{eqb-path}
use Rattle.evaluated.proofs.Renamed.{countable-renamed, fresh-renamed, all-names, known-names}

and-true : (b : Bool) → (b && true) ≡ b
and-true true = refl
and-true false = refl

-- ---- what is in scope or hidden stands in the tree

both-in : (xs ys ls rs : List Bytes) → Sub xs ls → Sub ys rs → Sub (xs ++ ys) (ls ++ rs)
both-in xs ys ls rs a b v m = either (λ i. mem-left v ls rs (a v i)) (λ i. mem-right v ls rs (b v i)) (mem-append-cases v xs ys m)

first-in : (xs ls rs : List Bytes) → Sub xs ls → Sub (xs ++ []) (ls ++ rs)
first-in xs ls rs a = both-in xs [] ls rs a (λ v m. mem-nil v m)

self_in : (xs : List Bytes) → Sub xs xs
self_in xs v m = m

condition-in : (c : Condition) (rs : List Bytes) → Sub (condition_vars (λ e. []) c) rs
unfolding condition_vars
condition-in always rs v m = mem-nil v m
condition-in (provided e) rs v m = mem-nil v m

known_in : (p : Pattern) → Sub (scoped_or_hidden p) (names p)
unfolding names_with
known_in (bgp ts) = self_in _
known_in (path s t o) = self_in _
known_in (join p q) = both-in (scoped_or_hidden p) (scoped_or_hidden q) (names p) (names q) (known_in p) (known_in q)
known_in (union p q) = both-in (scoped_or_hidden p) (scoped_or_hidden q) (names p) (names q) (known_in p) (known_in q)
known_in (minus p q) = both-in (scoped_or_hidden p) (scoped_or_hidden q) (names p) (names q) (known_in p) (known_in q)
known_in (leftjoin p q c) = both-in (scoped_or_hidden p ++ scoped_or_hidden q) (condition_vars (λ e. []) c) (names p ++ names q) (condition_vars expression_vars c) (both-in (scoped_or_hidden p) (scoped_or_hidden q) (names p) (names q) (known_in p) (known_in q)) (condition-in c (condition_vars expression_vars c))
known_in (filter p e) = first-in (scoped_or_hidden p) (names p) (expression_vars e) (known_in p)
known_in (graph n p) = both-in (variables_of (n ∷ [])) (scoped_or_hidden p) (variables_of (n ∷ [])) (names p) (self_in _) (known_in p)
known_in (extend v p e) = both-in (v ∷ []) (scoped_or_hidden p ++ []) (v ∷ []) (names p ++ expression_vars e) (self_in (v ∷ [])) (first-in (scoped_or_hidden p) (names p) (expression_vars e) (known_in p))
known_in (values cs rs) = self_in _
known_in (orderby p os) = known_in p
known_in (project cs p) = both-in cs (scoped_or_hidden p) cs (names p) (self_in cs) (known_in p)
known_in (distinct p) = known_in p
known_in (reduced p) = known_in p
known_in (slice s l p) = known_in p
known_in (group ks p rs) = both-in (ks ++ aggregate_variables rs) (scoped_or_hidden p) (ks ++ aggregate_variables rs) (names p) (self_in _) (known_in p)
known_in (service n s p) = known_in p

-- ---- constants bound by a values

bind-countable : (p : Pattern) (cs : List Bytes) (ks : List Constant) → is_countable (bind_constants p cs ks) ≡ is_countable p
unfolding bind_constants is_countable
bind-countable p cs [] = refl
bind-countable p cs (k ∷ ks) = and-true (is_countable p)

bind-fresh : (p : Pattern) (cs : List Bytes) (ks : List Constant) → extends_fresh (bind_constants p cs ks) ≡ extends_fresh p
unfolding bind_constants extends_fresh
bind-fresh p cs [] = refl
bind-fresh p cs (k ∷ ks) = and-true (extends_fresh p)

bind-names : (p : Pattern) (cs : List Bytes) (ks : List Constant) (v : Bytes) → mem v (names (bind_constants p cs ks)) ≡ true → (mem v (names p) ≡ true) ⊎ (mem v (constant_columns cs ks) ≡ true)
unfolding bind_constants names_with
bind-names p cs [] v m = inl m
bind-names p cs (k ∷ ks) v m = mem-append-cases v (names p) (constant_columns cs (k ∷ ks)) m

bind-known : (p : Pattern) (cs : List Bytes) (ks : List Constant) → Sub (scoped_or_hidden p) (scoped_or_hidden (bind_constants p cs ks))
unfolding bind_constants names_with
bind-known p cs [] v m = m
bind-known p cs (k ∷ ks) v m = mem-left v (scoped_or_hidden p) (constant_columns cs (k ∷ ks)) m

bind-constant : (p : Pattern) (cs : List Bytes) (ks : List Constant) → Sub (constant_columns cs ks) (scoped_or_hidden (bind_constants p cs ks))
unfolding bind_constants names_with
bind-constant p cs [] v m = mem-nil v m
bind-constant p cs (k ∷ ks) v m = mem-right v (scoped_or_hidden p) (constant_columns cs (k ∷ ks)) m

-- ---- a column stays, or carries a constant

at_last : (pre : List Bytes) (c : Bytes) (cs : List Bytes) → get_or (pre ++ (c ∷ cs)) (length pre) [] ≡ c
at_last [] c cs = refl
at_last (p ∷ pre) c cs = at_last pre c cs

constant-at : (whole : List Bytes) (i : ℕ) (ks : List Constant) → any (λ k. eqb k.position i) ks ≡ true → mem (column_at whole i) (constant_columns whole ks) ≡ true
unfolding any
constant-at whole i [] h = absurd (false≢true h)
constant-at whole i (k ∷ ks) h = either (λ e. mem-eq (column_at whole i) _ (constant_columns whole ks) (ap (column_at whole) (sym (eqb-path k.position i e)))) (λ e. mem-there (column_at whole i) _ (constant_columns whole ks) (constant-at whole i ks e)) (or_cases (eqb k.position i) (any (λ k. eqb k.position i) ks) h)

length_last : (pre : List Bytes) (c : Bytes) → length (pre ++ (c ∷ [])) ≡ suc (length pre)
length_last [] c = refl
length_last (p ∷ pre) c = ap suc (length_last pre c)

append-group : (xs ys zs : List Bytes) → (xs ++ ys) ++ zs ≡ xs ++ (ys ++ zs)
append-group [] ys zs = refl
append-group (x ∷ xs) ys zs = ap (λ l. x ∷ l) (append-group xs ys zs)

free-or-constant : (pre cs : List Bytes) (ks : List Constant) (v : Bytes) → mem v cs ≡ true → (mem v (without_constants (length pre) cs ks) ≡ true) ⊎ (mem v (constant_columns (pre ++ cs) ks) ≡ true)
unfolding without_constants
free-or-constant pre [] ks v m = inl m
free-or-constant pre (c ∷ cs) ks v m =
    let next : mem v cs ≡ true → (mem v (without_constants (suc (length pre)) cs ks) ≡ true) ⊎ (mem v (constant_columns (pre ++ (c ∷ cs)) ks) ≡ true) = λ k.
    subst (λ n. (mem v (without_constants n cs ks) ≡ true) ⊎ (mem v (constant_columns (pre ++ (c ∷ cs)) ks) ≡ true)) (length_last pre c)
    (subst (λ l. (mem v (without_constants (length (pre ++ (c ∷ []))) cs ks) ≡ true) ⊎ (mem v (constant_columns l ks) ≡ true)) (append-group pre (c ∷ []) cs) (free-or-constant (pre ++ (c ∷ [])) cs ks v k)) in
    go (any (λ k. eqb k.position (length pre)) ks) refl next
  where
    go : (b : Bool) → any (λ k. eqb k.position (length pre)) ks ≡ b → (mem v cs ≡ true → (mem v (without_constants (suc (length pre)) cs ks) ≡ true) ⊎ (mem v (constant_columns (pre ++ (c ∷ cs)) ks) ≡ true)) → (mem v (cond b (without_constants (suc (length pre)) cs ks) (c ∷ without_constants (suc (length pre)) cs ks)) ≡ true) ⊎ (mem v (constant_columns (pre ++ (c ∷ cs)) ks) ≡ true)
    go true e next = either (λ i. inr (subst (λ w. mem w (constant_columns (pre ++ (c ∷ cs)) ks) ≡ true) (at_last pre c cs ∙ sym i) (constant-at (pre ++ (c ∷ cs)) (length pre) ks e))) next (mem-cases v c cs m)
    go false e next = either (λ i. inl (mem-eq v c (without_constants (suc (length pre)) cs ks) i)) (λ k. either (λ i. inl (mem-there v c (without_constants (suc (length pre)) cs ks) i)) (λ i. inr i) (next k)) (mem-cases v c cs m)

-- ---- one side

module _ (s : Side) (fit : SideFit s) (ck : is_countable (whole s) ≡ true) (fr : extends_fresh (whole s) ≡ true) (ex : expressions_known (whole s) ≡ true) where
  abbrev inner : Pattern
  inner = rename_in_graph_pattern s.name s.inner

  inner-in : Sub (names s.inner) (names (whole s))
  unfolding names_with
  inner-in v m = mem-right v s.columns (names s.inner) m

  pub side-countable : is_countable (renamed_pattern s) ≡ true
  unfolding renamed_pattern is_countable
  side-countable = bind-countable inner (renamed_columns s) s.constants ∙ (countable-renamed (names (whole s)) s.name fit.apart fit.variables s.inner inner-in ∙ ck)

  pub side-fresh : extends_fresh (renamed_pattern s) ≡ true
  unfolding renamed_pattern extends_fresh
  side-fresh = bind-fresh inner (renamed_columns s) s.constants ∙ (fresh-renamed (names (whole s)) s.name fit.apart fit.variables s.inner inner-in ∙ fr)

  -- a name of the renamed inner pattern is known there, or is a column's new name
  pub inner-known : (v : Bytes) → mem v (names inner) ≡ true → (mem v (scoped_or_hidden inner) ≡ true) ⊎ (mem v (renamed_columns s) ≡ true)
  unfolding expressions_known names_with
  inner-known v m =
      let k = mem-unmap s.name v (names s.inner) (subst (λ l. mem v l ≡ true) (all-names (names (whole s)) s.name fit.apart fit.variables s.inner inner-in) m) in
      let u : Bytes = k.0 in
      let h : mem u (scoped_or_hidden (whole s)) ≡ true = all-at (λ w. mem w (scoped_or_hidden (whole s))) (names (whole s)) ex u (inner-in u k.1) in
      either
      (λ i. inr (subst (λ w. mem w (renamed_columns s) ≡ true) (sym k.2) (mem-map s.name u s.columns i)))
      (λ i. inl (subst (λ w. mem w (scoped_or_hidden inner) ≡ true) (sym k.2) (subst (λ l. mem (s.name u) l ≡ true) (sym (known-names (names (whole s)) s.name fit.apart fit.variables s.inner (λ w n. inner-in w (known_in s.inner w n)))) (mem-map s.name u (scoped_or_hidden s.inner) i))))
      (mem-append-cases u s.columns (scoped_or_hidden s.inner) h)

  -- a column's new name stays a column, or is known beneath
  pub column-known : (v : Bytes) → mem v (renamed_columns s) ≡ true → (mem v (free_columns s) ≡ true) ⊎ (mem v (scoped_or_hidden (renamed_pattern s)) ≡ true)
  unfolding free_columns renamed_pattern
  column-known v m = either (λ i. inl i) (λ i. inr (bind-constant inner (renamed_columns s) s.constants v i)) (free-or-constant [] (renamed_columns s) s.constants v m)

  pub side-known : (v : Bytes) → mem v (names (renamed_pattern s)) ≡ true → (mem v (scoped_or_hidden (renamed_pattern s)) ≡ true) ⊎ (mem v (renamed_columns s) ≡ true)
  unfolding renamed_pattern
  side-known v m = either
      (λ i. either (λ j. inl (bind-known inner (renamed_columns s) s.constants v j)) (λ j. inr j) (inner-known v i))
      (λ i. inl (bind-constant inner (renamed_columns s) s.constants v i))
      (bind-names inner (renamed_columns s) s.constants v m)

-- ---- both

module _ (l r : Side) (js : List Pair) (fit : Fit l r js) (jl : inside l.columns (map (λ j. j.left) js) ≡ true)
    (lc : is_countable (whole l) ≡ true) (lf : extends_fresh (whole l) ≡ true) (lx : expressions_known (whole l) ≡ true)
    (rc : is_countable (whole r) ≡ true) (rf : extends_fresh (whole r) ≡ true) (rx : expressions_known (whole r) ≡ true) where
  abbrev known : List Bytes
  known = merged_columns l r js ++ (scoped_or_hidden (renamed_pattern l) ++ scoped_or_hidden (renamed_pattern r))

  left-column : (v : Bytes) → mem v (renamed_columns l) ≡ true → mem v known ≡ true
  unfolding merged_columns
  left-column v m = either
      (λ i. mem-left v (merged_columns l r js) _ (mem-left v (free_columns l) _ i))
      (λ i. mem-right v (merged_columns l r js) _ (mem-left v (scoped_or_hidden (renamed_pattern l)) _ i))
      (column-known l fit.left lc lf lx v m)

  right-column : (v : Bytes) → mem v (renamed_columns r) ≡ true → mem v known ≡ true
  unfolding merged_columns
  right-column v m = either
      (λ i. either
      (λ j. left-column v (map-sub l.name (left_join_variables l js) l.columns (positions-in l.columns (λ j. j.left) js jl) v j))
      (λ j. mem-left v (merged_columns l r js) _ (mem-right v (free_columns l) _ (mem-keep (λ c. not (mem c (map l.name (left_join_variables l js)))) v (free_columns r) ∙ and_both (not (mem v (map l.name (left_join_variables l js)))) (mem v (free_columns r)) (ap not j) i)))
      (split (mem v (map l.name (left_join_variables l js)))))
      (λ i. mem-right v (merged_columns l r js) _ (mem-right v (scoped_or_hidden (renamed_pattern l)) _ i))
      (column-known r fit.right rc rf rx v m)

  merged-known : expressions_known (merged l r js) ≡ true
  unfolding expressions_known merged names_with
  merged-known = all_of (λ v. mem v known) (merged_columns l r js ++ (names (renamed_pattern l) ++ names (renamed_pattern r))) (λ v m. either
      (λ i. mem-left v (merged_columns l r js) _ i)
      (λ i. either
      (λ j. either (λ k. mem-right v (merged_columns l r js) _ (mem-left v (scoped_or_hidden (renamed_pattern l)) _ k)) (left-column v) (side-known l fit.left lc lf lx v j))
      (λ j. either (λ k. mem-right v (merged_columns l r js) _ (mem-right v (scoped_or_hidden (renamed_pattern l)) _ k)) (right-column v) (side-known r fit.right rc rf rx v j))
      (mem-append-cases v (names (renamed_pattern l)) (names (renamed_pattern r)) i))
      (mem-append-cases v (merged_columns l r js) (names (renamed_pattern l) ++ names (renamed_pattern r)) m))

  pub merged-evaluable : is_evaluable (merged l r js) ≡ true
  unfolding is_evaluable is_countable extends_fresh merged
  merged-evaluable = and_both (is_countable (merged l r js)) _
      (and_both (is_countable (renamed_pattern l)) (is_countable (renamed_pattern r)) (side-countable l fit.left lc lf lx) (side-countable r fit.right rc rf rx))
      (and_both (extends_fresh (merged l r js)) _ (and_both (extends_fresh (renamed_pattern l)) (extends_fresh (renamed_pattern r)) (side-fresh l fit.left lc lf lx) (side-fresh r fit.right rc rf rx)) merged-known)
