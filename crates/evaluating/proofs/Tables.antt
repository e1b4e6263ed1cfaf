-- Every pattern's table holds the pattern's rows, and is within the bounds exactly if they are. Assumes nothing.
use mathlib.Core.Path.{◌≡◌, refl, sym, ◌∙◌, ap, ap₂}
use mathlib.Core.Bool.{true, not, ◌&&◌}
use mathlib.Core.List.{List, [], ◌++◌, map}
use Prim.Native.Nat.{ℕ}
use Rattle.text.specs.Text.{Bytes}
use Rattle.algebra.specs.Tree.{Triple, Pattern, bgp, path, join, union, minus, leftjoin, filter, graph, extend, values, orderby, project, distinct, reduced, slice, group, service}
use Rattle.algebra.specs.Tree.{Expression, Condition, always, provided}
use Rattle.algebra.specs.Valid.{mem}
use Rattle.scoping.specs.Sets.{any}
use Rattle.scoping.specs.Variables.{variables_in_pattern, scope_of}
use Rattle.scoping.specs.ScopedOrHidden.{condition_vars, names_with}
use Rattle.scoping.specs.bridge.Sets.{Sub}
use Rattle.scoping.proofs.Basics.{mem-nil, mem-here, mem-left, mem-right, sub-left, sub-right, sub-rest, map-append}
use Rattle.counting.specs.Bag.{total}
use Rattle.counting.specs.Scope.{expression_vars, names}
use Rattle.counting.specs.Answer.{terms, eval}
use Rattle.counting.proofs.Every.{Every, done, every_append, every_two}
use Rattle.counting.proofs.Only.{eval-only}
use Rattle.counting.proofs.Rename.{scope-in}
use Rattle.evaluating.specs.Bounds.{table_fits, tables_fit}
use Rattle.evaluating.specs.bridge.Numbers.{Numbers, coded, numbers, expression_constants, condition_constants, row_constants, constants, Spells, NamesApart}
use Rattle.evaluating.specs.bridge.Cells.{look, under, merged_row, passes_in, term_in}
use Rattle.evaluating.specs.bridge.Table.{Table, gather, is_small, weigh}
use Rattle.evaluating.specs.bridge.Tables.{columns_of, numbers_of, pairs_of, joined, left_joined, spread, without, filtered, extended_cell, extended, once_each, first_bound, one_each, line_cells, listed, unit, table, tables_small}
use Rattle.evaluating.proofs.Sorted.{Different, dnil}
use Rattle.evaluating.proofs.Bags.{Holds, cells_of, holds_by, gather-holds, once-holds, keep-holds}
use Rattle.evaluating.proofs.Operators.{pair_entries, bag-join, join-positive, bag-left, left-positive, bag-lines, lines-positive, bag-map, map-positive, bag-append}
use Rattle.evaluating.proofs.Within.{eval-within, spells-left, spells-right}
use Rattle.evaluating.proofs.Rows.{Good, test, join-coded, left-coded, without-coded, removes, spread-coded, cut-coded, filter-coded, extend-coded, once-coded, lines-coded}
use Rattle.evaluating.proofs.Fits.{in-columns, columns-in, small_is}
use Rattle.evaluating.proofs.BgpLine.{same_triple}
use Rattle.evaluating.proofs.BgpTable.{from-holds, from-small, unit-holds}

nothing-holds : Holds [] []
unfolding cells_of weigh
nothing-holds = record { bag = λ f. refl; apart = dnil; positive = done }

no_names : (N : List Bytes) → Sub [] N
no_names N v m = mem-nil v m

module _ (κ : Numbers) (N : List Bytes) (inj : NamesApart κ N) (g : List Triple) (kg : Spells κ (terms g)) (dg : Different same_triple g) where
  pub eval-good : (p : Pattern) → Spells κ (constants p) → Every (Good κ (scope_of p)) (eval g p)
  eval-good p s = every_two (λ a oa ka. record { only = oa; within = ka }) (eval-only g p) (eval-within κ g kg p s)

  columns-known : (p : Pattern) → Sub (names p) N → Sub (columns_of p) N
  columns-known p s v m = scope-in N p s v (columns-in p v m)

  -- what a pattern's table is to hold
  abbrev Tabled : Pattern → Table → Type 0
  Tabled p t = Holds t (map (coded κ (columns_of p)) (eval g p))

  -- both sides' columns are columns of a pattern that has both scopes
  module _ (p q : Pattern) (pn : Sub (names p) N) (qn : Sub (names q) N) (pc : Spells κ (constants p)) (qc : Spells κ (constants q)) where
    abbrev us : List ℕ
    us = numbers_of κ p

    abbrev vs : List ℕ
    vs = numbers_of κ q

    left_in : (j : Pattern) → Sub (scope_of p ++ scope_of q) (scope_of j) → Sub (columns_of p) (columns_of j)
    left_in j s v m = in-columns j v (s v (mem-left v (scope_of p) (scope_of q) (columns-in p v m)))

    right-in : (j : Pattern) → Sub (scope_of p ++ scope_of q) (scope_of j) → Sub (columns_of q) (columns_of j)
    right-in j s v m = in-columns j v (s v (mem-right v (scope_of p) (scope_of q) (columns-in q v m)))

    join-holds : (s t : Table) → Sub (names (join p q)) N → Tabled p s → Tabled q t → Tabled (join p q) (gather (joined us vs (numbers_of κ (join p q)) s t) [])
    unfolding joined pairs_of pair_entries eval variables_in_pattern condition_vars condition_constants passes_in
    join-holds s t n hs ht =
        let j : Pattern = join p q in
        gather-holds _ _
        (λ f.
        bag-join (test κ N inj (columns_of p) (columns_of q) (columns_of j) always) (merged_row us vs (numbers_of κ j)) s t (map (coded κ (columns_of p)) (eval g p)) (map (coded κ (columns_of q)) (eval g q)) hs.bag ht.bag f
        ∙ ap (total f) (join-coded κ N inj (scope_of p) (scope_of q) (columns_of p) (columns_of q) (columns_of j) (in-columns p) (in-columns q) (in-columns j) (left_in j (λ v m. m)) (right-in j (λ v m. m)) (columns-known j n) always (no_names N) (λ x m. mem-nil x m) (eval-good p pc) (eval-good q qc)))
        (join-positive (test κ N inj (columns_of p) (columns_of q) (columns_of j) always) (merged_row us vs (numbers_of κ j)) s t hs.positive ht.positive)

    left-holds : (c : Condition) (s t : Table) → Sub (names (leftjoin p q c)) N → Sub (condition_vars expression_vars c) N → Spells κ (condition_constants c) → Tabled p s → Tabled q t → Tabled (leftjoin p q c) (gather (left_joined (λ ρ. passes_in κ ρ c) us vs (numbers_of κ (leftjoin p q c)) s t) [])
    unfolding left_joined pairs_of pair_entries eval variables_in_pattern
    left-holds c s t n cv cc hs ht =
        let j : Pattern = leftjoin p q c in
        gather-holds _ _
        (λ f.
        bag-left (test κ N inj (columns_of p) (columns_of q) (columns_of j) c) (merged_row us vs (numbers_of κ j)) (under us (numbers_of κ j)) s t (map (coded κ (columns_of p)) (eval g p)) (map (coded κ (columns_of q)) (eval g q)) hs.bag ht f
        ∙ ap (total f) (left-coded κ N inj (scope_of p) (scope_of q) (columns_of p) (columns_of q) (columns_of j) (in-columns p) (in-columns q) (in-columns j) (left_in j (λ v m. m)) (right-in j (λ v m. m)) (columns-known j n) c cv cc (eval-good p pc) (eval-good q qc)))
        (left-positive (test κ N inj (columns_of p) (columns_of q) (columns_of j) c) (merged_row us vs (numbers_of κ j)) (under us (numbers_of κ j)) s t hs.positive ht.positive)

    union-holds : (s t : Table) → Sub (names (union p q)) N → Tabled p s → Tabled q t → Tabled (union p q) (gather (spread us (numbers_of κ (union p q)) s ++ spread vs (numbers_of κ (union p q)) t) [])
    unfolding spread eval variables_in_pattern
    union-holds s t n hs ht =
        let j : Pattern = union p q in
        gather-holds _ _
        (λ f.
        bag-append _ _ _ _ (bag-map (under us (numbers_of κ j)) s (map (coded κ (columns_of p)) (eval g p)) hs.bag) (bag-map (under vs (numbers_of κ j)) t (map (coded κ (columns_of q)) (eval g q)) ht.bag) f
        ∙ ap (total f) (ap₂ ◌++◌ (spread-coded κ N inj (scope_of p) (columns_of p) (in-columns p) (columns-known p pn) (columns_of j) (columns-known j n) (eval-good p pc)) (spread-coded κ N inj (scope_of q) (columns_of q) (in-columns q) (columns-known q qn) (columns_of j) (columns-known j n) (eval-good q qc))
        ∙ sym (map-append (coded κ (columns_of j)) (eval g p) (eval g q))))
        (every_append (map-positive (under us (numbers_of κ j)) s hs.positive) (map-positive (under vs (numbers_of κ j)) t ht.positive))

    minus-holds : (s t : Table) → Tabled p s → Tabled q t → Tabled (minus p q) (without us vs us s t)
    unfolding without eval variables_in_pattern columns_of
    minus-holds s t hs ht =
        holds_by _ _ _ (without-coded κ N inj (scope_of p) (scope_of q) (columns_of p) (columns_of q) (in-columns p) (columns-in p) (in-columns q) (columns-known p pn) (columns-known q qn) t (eval-good p pc) (eval-good q qc) ht)
        (keep-holds s (map (coded κ (columns_of p)) (eval g p)) hs (λ x. not (any (λ f. removes κ N inj (columns_of p) (columns_of q) x f.cells) t)))

  -- ---- one side

  module _ (p : Pattern) (pn : Sub (names p) N) (pc : Spells κ (constants p)) (s : Table) (hs : Tabled p s) where
    abbrev cs₁ : List ℕ
    cs₁ = numbers_of κ p

    filter-holds : (e : Expression) → Sub (expression_vars e) N → Spells κ (expression_constants e) → Tabled (filter p e) (filtered (λ ρ. passes_in κ ρ (provided e)) cs₁ s)
    unfolding filtered eval variables_in_pattern columns_of
    filter-holds e ev ec =
        holds_by _ _ _ (filter-coded κ N inj (scope_of p) (columns_of p) (in-columns p) (columns-known p pn) e ev ec (eval-good p pc))
        (keep-holds s (map (coded κ (columns_of p)) (eval g p)) hs (λ x. passes_in κ (λ v. look v cs₁ x) (provided e)))

    extend-holds : (v : Bytes) (e : Expression) → Sub (names (extend v p e)) N → mem v N ≡ true → Sub (expression_vars e) N → Tabled (extend v p e) (gather (extended (λ ρ. term_in κ ρ e) (κ.name v) cs₁ (numbers_of κ (extend v p e)) s) [])
    unfolding extended eval
    extend-holds v e n vn ev =
        let j : Pattern = extend v p e in
        let h : List ℕ → List ℕ = λ x. map (extended_cell (κ.name v) (term_in κ (λ w. look w cs₁ x) e) cs₁ x) (numbers_of κ j) in
        gather-holds _ _ (λ f. bag-map h s (map (coded κ (columns_of p)) (eval g p)) hs.bag f ∙ ap (total f) (extend-coded κ N inj (scope_of p) (columns_of p) (in-columns p) (columns-known p pn) v (columns_of j) e vn (columns-known j n) ev (eval-good p pc))) (map-positive h s hs.positive)

    project-holds : (cs : List Bytes) → Sub (names (project cs p)) N → Tabled (project cs p) (gather (spread cs₁ (numbers_of κ (project cs p)) s) [])
    unfolding spread eval variables_in_pattern
    project-holds cs n =
        let j : Pattern = project cs p in
        gather-holds _ _ (λ f. bag-map (under cs₁ (numbers_of κ j)) s (map (coded κ (columns_of p)) (eval g p)) hs.bag f ∙ ap (total f) (cut-coded κ N inj (scope_of p) (columns_of p) (in-columns p) (columns-known p pn) cs (columns_of j) (columns-in j) (columns-known j n) (eval-good p pc))) (map-positive (under cs₁ (numbers_of κ j)) s hs.positive)

    distinct-holds : Tabled (distinct p) (once_each s)
    unfolding eval variables_in_pattern columns_of
    distinct-holds = holds_by _ _ _ (once-coded κ N inj (scope_of p) (columns_of p) (in-columns p) (columns-known p pn) (columns-in p) (eval-good p pc)) (once-holds s (map (coded κ (columns_of p)) (eval g p)) hs)

  values-holds : (cs : List Bytes) (rs : List (List Bytes)) → Sub cs N → Spells κ (row_constants rs) → Tabled (values cs rs) (gather (listed κ (numbers κ cs) (numbers_of κ (values cs rs)) rs) [])
  unfolding listed eval variables_in_pattern
  values-holds cs rs n k =
      let j : Pattern = values cs rs in
      gather-holds _ _
      (λ f. bag-lines (λ xs. one_each (numbers κ cs) (line_cells κ xs)) (λ xs. map (λ v. first_bound v (numbers κ cs) (line_cells κ xs)) (numbers_of κ j)) rs f ∙ ap (total f) (lines-coded κ N inj cs (columns_of j) rs n (λ v m. n v (columns-in j v m)) k))
      (lines-positive (λ xs. one_each (numbers κ cs) (line_cells κ xs)) (λ xs. map (λ v. first_bound v (numbers κ cs) (line_cells κ xs)) (numbers_of κ j)) rs)

  -- ---- all patterns

  provided-spelled : (p : Pattern) (e : Expression) → Spells κ (constants p ++ condition_constants (provided e)) → Spells κ (constants p ++ expression_constants e)
  unfolding condition_constants
  provided-spelled p e k = k

  pub table-holds : (p : Pattern) → Sub (names p) N → Spells κ (constants p) → Tabled p (table κ g p)
  unfolding table names_with constants eval
  table-holds (bgp ts) n k = from-holds κ N inj g kg dg [] ts (no_names N) n k unit (unit-holds κ N inj g kg dg)
  table-holds (join p q) n k =
      let pn : Sub (names p) N = sub-left (names p) (names q) N n in
      let qn : Sub (names q) N = sub-right (names p) (names q) N n in
      let pc : Spells κ (constants p) = spells-left κ (constants p) (constants q) k in
      let qc : Spells κ (constants q) = spells-right κ (constants p) (constants q) k in
      join-holds p q pn qn pc qc (table κ g p) (table κ g q) n (table-holds p pn pc) (table-holds q qn qc)
  table-holds (leftjoin p q c) n k =
      let m : Sub (names p ++ names q) N = sub-left (names p ++ names q) (condition_vars expression_vars c) N n in
      let l : Spells κ (constants p ++ constants q) = spells-left κ (constants p ++ constants q) (condition_constants c) k in
      let pn : Sub (names p) N = sub-left (names p) (names q) N m in
      let qn : Sub (names q) N = sub-right (names p) (names q) N m in
      let pc : Spells κ (constants p) = spells-left κ (constants p) (constants q) l in
      let qc : Spells κ (constants q) = spells-right κ (constants p) (constants q) l in
      left-holds p q pn qn pc qc c (table κ g p) (table κ g q) n (sub-right (names p ++ names q) (condition_vars expression_vars c) N n) (spells-right κ (constants p ++ constants q) (condition_constants c) k) (table-holds p pn pc) (table-holds q qn qc)
  table-holds (filter p e) n k =
      let pn : Sub (names p) N = sub-left (names p) (expression_vars e) N n in
      let pc : Spells κ (constants p) = spells-left κ (constants p) (expression_constants e) (provided-spelled p e k) in
      filter-holds p pn pc (table κ g p) (table-holds p pn pc) e (sub-right (names p) (expression_vars e) N n) (spells-right κ (constants p) (expression_constants e) (provided-spelled p e k))
  table-holds (union p q) n k =
      let pn : Sub (names p) N = sub-left (names p) (names q) N n in
      let qn : Sub (names q) N = sub-right (names p) (names q) N n in
      let pc : Spells κ (constants p) = spells-left κ (constants p) (constants q) k in
      let qc : Spells κ (constants q) = spells-right κ (constants p) (constants q) k in
      union-holds p q pn qn pc qc (table κ g p) (table κ g q) n (table-holds p pn pc) (table-holds q qn qc)
  table-holds (minus p q) n k =
      let pn : Sub (names p) N = sub-left (names p) (names q) N n in
      let qn : Sub (names q) N = sub-right (names p) (names q) N n in
      let pc : Spells κ (constants p) = spells-left κ (constants p) (constants q) k in
      let qc : Spells κ (constants q) = spells-right κ (constants p) (constants q) k in
      minus-holds p q pn qn pc qc (table κ g p) (table κ g q) (table-holds p pn pc) (table-holds q qn qc)
  table-holds (extend v p e) n k =
      let m : Sub (names p ++ expression_vars e) N = sub-rest v (names p ++ expression_vars e) N n in
      let pn : Sub (names p) N = sub-left (names p) (expression_vars e) N m in
      let pc : Spells κ (constants p) = spells-left κ (constants p) (expression_constants e) (provided-spelled p e k) in
      extend-holds p pn pc (table κ g p) (table-holds p pn pc) v e n (n v (mem-here v (names p ++ expression_vars e))) (sub-right (names p) (expression_vars e) N m)
  table-holds (values cs rs) n k = values-holds cs rs n k
  table-holds (project cs p) n k = let pn : Sub (names p) N = sub-right cs (names p) N n in project-holds p pn k (table κ g p) (table-holds p pn k) cs n
  table-holds (distinct p) n k = distinct-holds p n k (table κ g p) (table-holds p n k)
  table-holds (path s t o) n k = nothing-holds
  table-holds (graph a p) n k = nothing-holds
  table-holds (orderby p os) n k = nothing-holds
  table-holds (reduced p) n k = nothing-holds
  table-holds (slice a l p) n k = nothing-holds
  table-holds (group ks p rs) n k = nothing-holds
  table-holds (service a f p) n k = nothing-holds

  -- a table that holds the pattern's rows is within the bounds exactly if the pattern's own table is
  own-small : (p : Pattern) → Sub (names p) N → Spells κ (constants p) → is_small (table κ g p) ≡ table_fits g p
  own-small p n k = small_is κ N inj g p (columns-known p n) (eval-good p k) (table κ g p) (table-holds p n k)

  pub tables-small : (p : Pattern) → Sub (names p) N → Spells κ (constants p) → tables_small κ g p ≡ tables_fit g p
  unfolding tables_small tables_fit names_with constants
  tables-small (bgp ts) n k = from-small κ N inj g kg dg [] ts (no_names N) n k unit (unit-holds κ N inj g kg dg)
  tables-small (join p q) n k = ap₂ ◌&&◌ (tables-small p (sub-left (names p) (names q) N n) (spells-left κ (constants p) (constants q) k)) (ap₂ ◌&&◌ (tables-small q (sub-right (names p) (names q) N n) (spells-right κ (constants p) (constants q) k)) (own-small (join p q) n k))
  tables-small (leftjoin p q c) n k =
      let m : Sub (names p ++ names q) N = sub-left (names p ++ names q) (condition_vars expression_vars c) N n in
      let l : Spells κ (constants p ++ constants q) = spells-left κ (constants p ++ constants q) (condition_constants c) k in
      ap₂ ◌&&◌ (tables-small p (sub-left (names p) (names q) N m) (spells-left κ (constants p) (constants q) l)) (ap₂ ◌&&◌ (tables-small q (sub-right (names p) (names q) N m) (spells-right κ (constants p) (constants q) l)) (own-small (leftjoin p q c) n k))
  tables-small (filter p e) n k = ap₂ ◌&&◌ (tables-small p (sub-left (names p) (expression_vars e) N n) (spells-left κ (constants p) (condition_constants (provided e)) k)) (own-small (filter p e) n k)
  tables-small (union p q) n k = ap₂ ◌&&◌ (tables-small p (sub-left (names p) (names q) N n) (spells-left κ (constants p) (constants q) k)) (ap₂ ◌&&◌ (tables-small q (sub-right (names p) (names q) N n) (spells-right κ (constants p) (constants q) k)) (own-small (union p q) n k))
  tables-small (minus p q) n k = ap₂ ◌&&◌ (tables-small p (sub-left (names p) (names q) N n) (spells-left κ (constants p) (constants q) k)) (ap₂ ◌&&◌ (tables-small q (sub-right (names p) (names q) N n) (spells-right κ (constants p) (constants q) k)) (own-small (minus p q) n k))
  tables-small (extend v p e) n k = ap₂ ◌&&◌ (tables-small p (sub-left (names p) (expression_vars e) N (sub-rest v (names p ++ expression_vars e) N n)) (spells-left κ (constants p) (condition_constants (provided e)) k)) (own-small (extend v p e) n k)
  tables-small (values cs rs) n k = own-small (values cs rs) n k
  tables-small (project cs p) n k = ap₂ ◌&&◌ (tables-small p (sub-right cs (names p) N n) k) (own-small (project cs p) n k)
  tables-small (distinct p) n k = ap₂ ◌&&◌ (tables-small p n k) (own-small (distinct p) n k)
  tables-small (path s t o) n k = refl
  tables-small (graph a p) n k = refl
  tables-small (orderby p os) n k = refl
  tables-small (reduced p) n k = refl
  tables-small (slice a l p) n k = refl
  tables-small (group ks p rs) n k = refl
  tables-small (service a f p) n k = refl
