-- A merge with an empty file, without pairs and constants: its tree, its columns, and demand 3's sum, which is the single count. Assumes nothing.
use mathlib.Core.Path.{◌≡◌, refl, sym, ap, ap₂, fun_ext, ◌∙◌}
use mathlib.Core.Bool.{Bool, true, cond, not, ◌&&◌}
use mathlib.Core.List.{List, [], ◌∷◌, ◌++◌, map, append-nil}
use Prim.Native.Nat.{ℕ, suc}
use Rattle.text.specs.Text.{Bytes, split, lines_in, lines_of}
use Rattle.algebra.specs.Tree.{Triple, Pattern, bgp, join, project, always}
use Rattle.algebra.specs.Reader.{several, read_text}
use Rattle.algebra.specs.Texts.{read_pairs}
use Rattle.algebra.proofs.Given.{empty-reads}
use Rattle.algebra.specs.Valid.{mem, different}
use Rattle.algebra.specs.Tally.{notes, noted, headed, tally_triples, tally}
use Rattle.scoping.specs.Label.{prefix_l, prefix_r}
use Rattle.scoping.specs.Numbering.{by_place, in_scope_by_place, hidden_by_place, numbered}
use Rattle.scoping.specs.Premises.{inside, different_positions, side_name}
use Rattle.scoping.specs.Rename.{rename_in_graph_pattern}
use Rattle.scoping.specs.ScopedOrHidden.{names_with}
use Rattle.scoping.specs.Sets.{all, any, keep, triple_variables, each}
use Rattle.scoping.specs.Variables.{variables_in_pattern, scope_of}
use Rattle.counting.specs.Bag.{when, count}
use Rattle.counting.specs.Row.{Cell, Row, empty, merge, cut, agree, cells, same_row}
use Rattle.counting.specs.Condition.{passes}
use Rattle.counting.specs.Scope.{names}
use Rattle.counting.specs.Answer.{ways, bgp_rows, unions, eval, answer}
use Rattle.counting.specs.Countable.{is_countable, extends_fresh, values_once, expressions_known}
use Rattle.scoping.proofs.Basics.{either, mem-left, mem-append-cases}
use Rattle.counting.proofs.Only.{compatible-none, none-compatible, agree_of}
use Rattle.counting.proofs.Columns.{answer-renamed}
use Rattle.merging.specs.Sides.{bind_constants, without_constants, renamed_pattern, free_columns, merged_columns, merged}
use Rattle.merging.specs.Request.{Projection, tree, read_joins, read_constants, Request, request, left_side, right_side, all_inside}
use Rattle.merging.specs.Merge.{merge_project_patterns}
use Rattle.merging.specs.Names.{from, is_at}
use Rattle.merging.specs.Asked.{Lists}
use Rattle.merging.specs.bridge.Twice.{none_twice}
use Rattle.merging.proofs.TreeRead.{TreeRead, tree-read}
use Rattle.demand3.specs.Names.{column_positions, column_name, column_names, merged_names}
use Rattle.demand3.specs.Expected.{expected_count}
use Rattle.demand3.specs.Demand3.{Supposed, Premises, Counted}
use Rattle.demand3.specs.Empty.{empty_projection, Kept}
use Rattle.demand3.proofs.Fit.{SideFit}
use Rattle.demand3.proofs.Fits.{sides-fit}
use Rattle.demand3.proofs.Side.{or-none}
use Rattle.merging.proofs.SidesKnown.{left-known, right-known}
use Rattle.demand3.proofs.Promise.{columns-named, counts-named}

-- ---- a join with the one row that binds nothing

each-one : {A : Type 0} (f : A → List A) (xs : List A) → ((x : A) → f x ≡ x ∷ []) → each f xs ≡ xs
unfolding each
each-one f [] h = refl
each-one f (x ∷ xs) h = ap₂ ◌++◌ (h x) (each-one f xs h)

one-row : (g : List Triple) → eval g (bgp []) ≡ empty ∷ []
unfolding eval bgp_rows ways keep all triple_variables
one-row g = refl

join-right : (g : List Triple) (p : Pattern) → eval g (join p (bgp [])) ≡ eval g p
unfolding eval unions each when passes merge
join-right g p =
    let vs = scope_of p ++ scope_of (bgp []) in
    ap (λ (rs : List Row). each (λ a. unions vs always a rs) (eval g p)) (one-row g)
    ∙ each-one (λ a. unions vs always a (empty ∷ [])) (eval g p)
    (λ a. ap₂ (λ (b : Bool) (r : Row). when (b && true) r ++ []) (agree_of vs a empty (λ w. compatible-none (a w))) (fun_ext (λ w. or-none (a w))))

join-left : (g : List Triple) (p : Pattern) → eval g (join (bgp []) p) ≡ eval g p
unfolding eval unions each when passes merge
join-left g p =
    let vs = scope_of (bgp []) ++ scope_of p in
    ap (each (λ a. unions vs always a (eval g p))) (one-row g)
    ∙ append-nil (unions vs always empty (eval g p))
    ∙ each-one (λ b. when (agree vs empty b && passes always (merge empty b)) (merge empty b)) (eval g p)
    (λ b. ap (λ (t : Bool). when (t && true) b) (agree_of vs empty b (λ w. none-compatible (b w))))

-- ---- what is known of the empty file

nothing_read : TreeRead empty_projection
nothing_read = tree-read [] empty_projection empty-reads

nothing-supposed : Supposed empty_projection
unfolding is_countable extends_fresh values_once expressions_known all different numbered in_scope_by_place hidden_by_place by_place tally tally_triples noted headed notes keep variables_in_pattern triple_variables
nothing-supposed = record { countable = refl; extends_fresh = refl; values_once = refl; expressions_known = refl; no_label = refl; columns_once = refl }

pub no-lists : (l r : Projection) → Lists [] [] [] (request l r [] [] [])
unfolding read_joins read_constants read_pairs read_text several lines_of lines_in split
no-lists l r = record { joins = refl; left_constants = refl; right_constants = refl }

all-inside : (l r : Projection) → all_inside (request l r [] [] []) ≡ true
unfolding all_inside inside all
all-inside l r = refl

none-twice : none_twice [] ≡ true
unfolding none_twice different_positions
none-twice = refl

-- ---- the merged tree

root : {cs ds : List Bytes} {p q : Pattern} → project cs p ≡ project ds q → cs ≡ ds
root e = cc

without-none : (i : ℕ) (cs : List Bytes) → without_constants i cs [] ≡ cs
unfolding without_constants any
without-none i [] = refl
without-none i (c ∷ cs) = ap (λ (l : List Bytes). c ∷ l) (without-none (suc i) cs)

keep-every : {A : Type 0} (f : A → Bool) (xs : List A) → ((x : A) → f x ≡ true) → keep f xs ≡ xs
unfolding keep
keep-every f [] h = refl
keep-every f (x ∷ xs) h = ap₂ (λ (b : Bool) (l : List _). cond b (x ∷ l) l) (h x) (keep-every f xs h)

module _ (x : Projection) where
  abbrev on_right : Request
  on_right = request x empty_projection [] [] []

  abbrev on_left : Request
  on_left = request empty_projection x [] [] []

  abbrev left_name : Bytes → Bytes
  left_name = side_name prefix_l x.columns x.inner []

  abbrev right_name : Bytes → Bytes
  right_name = side_name prefix_r x.columns x.inner []

  right-tree : merge_project_patterns on_right ≡ project (map left_name x.columns) (join (rename_in_graph_pattern left_name x.inner) (bgp []))
  unfolding merge_project_patterns merged merged_columns free_columns renamed_pattern bind_constants without_constants keep rename_in_graph_pattern
  right-tree = ap (λ (cs : List Bytes). project cs (join (rename_in_graph_pattern left_name x.inner) (bgp []))) (append-nil (without_constants 0 (map left_name x.columns) []) ∙ without-none 0 (map left_name x.columns))

  left-tree : merge_project_patterns on_left ≡ project (map right_name x.columns) (join (bgp []) (rename_in_graph_pattern right_name x.inner))
  unfolding merge_project_patterns merged merged_columns free_columns renamed_pattern bind_constants without_constants rename_in_graph_pattern mem
  left-tree = ap (λ (cs : List Bytes). project cs (join (bgp []) (rename_in_graph_pattern right_name x.inner))) (keep-every _ (without_constants 0 (map right_name x.columns) []) (λ c. refl) ∙ without-none 0 (map right_name x.columns))

  -- ---- its answer is that to x

  among : (v : Bytes) → mem v (x.columns ++ names (tree x)) ≡ true → mem v (names (tree x)) ≡ true
  unfolding names_with
  among v h = either (λ c. mem-left v x.columns (names x.inner) c) (λ n. n) (mem-append-cases v x.columns (names (tree x)) h)

  same-right : SideFit (left_side on_right) → (g : List Triple) → answer (map left_name x.columns) g (merge_project_patterns on_right) ≡ answer x.columns g (tree x)
  unfolding answer eval rename_in_graph_pattern
  same-right s g =
      ap (answer (map left_name x.columns) g) right-tree
      ∙ ap (λ (rs : List Row). map (cells (map left_name x.columns)) (map (cut (map left_name x.columns)) rs)) (join-right g (rename_in_graph_pattern left_name x.inner))
      ∙ answer-renamed left_name g (tree x) x.columns (λ u v h k. s.apart u v (among u h) (among v k)) (λ v h. s.variables v (among v h))

  same_left : SideFit (right_side on_left) → (g : List Triple) → answer (map right_name x.columns) g (merge_project_patterns on_left) ≡ answer x.columns g (tree x)
  unfolding answer eval rename_in_graph_pattern
  same_left s g =
      ap (answer (map right_name x.columns) g) left-tree
      ∙ ap (λ (rs : List Row). map (cells (map right_name x.columns)) (map (cut (map right_name x.columns)) rs)) (join-left g (rename_in_graph_pattern right_name x.inner))
      ∙ answer-renamed right_name g (tree x) x.columns (λ u v h k. s.apart u v (among u h) (among v k)) (λ v h. s.variables v (among v h))

  -- ---- the columns

  all-kept : keep (λ i. not (is_at i [])) (column_positions x) ≡ column_positions x
  unfolding is_at any
  all-kept = keep-every (λ i. not (is_at i [])) (column_positions x) (λ i. refl)

  right-names : merged_names on_right ≡ column_names prefix_l x []
  unfolding merged_names column_names keep from
  right-names = append-nil (map (column_name prefix_l x []) (keep (λ i. not (is_at i [])) (column_positions x))) ∙ ap (map (column_name prefix_l x [])) all-kept

  left-names : merged_names on_left ≡ column_names prefix_r x []
  unfolding merged_names column_names keep from is_at any
  left-names = ap (map (column_name prefix_r x [])) (keep-every (λ i. not (is_at i []) && not (is_at i [])) (column_positions x) (λ i. refl))

  -- ---- the sum is the single count

  module _ (a : TreeRead x) (s : Supposed x) where
    pub right-sum : (g : List Triple) (row : List Cell) → expected_count on_right g row ≡ count same_row row (answer x.columns g (tree x))
    unfolding merge_project_patterns merged
    right-sum g row =
        let p : Premises on_right = record { left = s; right = nothing-supposed } in
        let l = left-known on_right [] [] [] a nothing_read (no-lists x empty_projection) (all-inside x empty_projection) none-twice in
        let r = right-known on_right [] [] [] a nothing_read (no-lists x empty_projection) (all-inside x empty_projection) none-twice in
        sym (counts-named on_right l r p g row)
        ∙ ap (λ (cs : List Bytes). count same_row row (answer cs g (merge_project_patterns on_right))) (sym (columns-named on_right l r p) ∙ root right-tree)
        ∙ ap (count same_row row) (same-right (sides-fit on_right l r p).left g)

    pub left-sum : (g : List Triple) (row : List Cell) → expected_count on_left g row ≡ count same_row row (answer x.columns g (tree x))
    unfolding merge_project_patterns merged
    left-sum g row =
        let p : Premises on_left = record { left = nothing-supposed; right = s } in
        let l = left-known on_left [] [] [] nothing_read a (no-lists empty_projection x) (all-inside empty_projection x) none-twice in
        let r = right-known on_left [] [] [] nothing_read a (no-lists empty_projection x) (all-inside empty_projection x) none-twice in
        sym (counts-named on_left l r p g row)
        ∙ ap (λ (cs : List Bytes). count same_row row (answer cs g (merge_project_patterns on_left))) (sym (columns-named on_left l r p) ∙ root left-tree)
        ∙ ap (count same_row row) (same_left (sides-fit on_left l r p).right g)

    pub kept-right : (text : Bytes) → Counted on_right text → Kept prefix_l x text
    kept-right text c =
        let p : Premises on_right = record { left = s; right = nothing-supposed } in
        record {
          merged = c.merged;
          read = c.read;
          columns = c.columns p ∙ right-names;
          counts = λ g row. ap (λ (cs : List Bytes). count same_row row (answer cs g (tree c.merged))) (sym right-names) ∙ c.counts p g row ∙ right-sum g row;
        }

    pub kept-left : (text : Bytes) → Counted on_left text → Kept prefix_r x text
    kept-left text c =
        let p : Premises on_left = record { left = nothing-supposed; right = s } in
        record {
          merged = c.merged;
          read = c.read;
          columns = c.columns p ∙ left-names;
          counts = λ g row. ap (λ (cs : List Bytes). count same_row row (answer cs g (tree c.merged))) (sym left-names) ∙ c.counts p g row ∙ left-sum g row;
        }
