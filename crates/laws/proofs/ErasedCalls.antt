-- Merge, push and negate on trees: literals are erased before or after. Assumes nothing.
use mathlib.Core.Path.{◌≡◌, refl, sym, ap, ap₂, ◌∙◌}
use mathlib.Core.Bool.{Bool, true, false, cond, not, ◌&&◌}
use mathlib.Core.List.{List, [], ◌∷◌, ◌++◌, map}
use mathlib.Core.Option.{Option, none, some}
use Prim.Native.Nat.{ℕ, suc}
use native.Mathlib.Omega.{arith}
use lib.Dec.{eqb, ltb}
use Rattle.text.specs.Text.{Bytes}
use Rattle.text.specs.Field.{is_var}
use Rattle.algebra.specs.Tree.{NOT, Pattern, bgp, path, join, union, minus, leftjoin, filter, graph, extend, values, orderby, project, distinct, reduced, slice, group, service, exists, apply, eend, econs}
use Rattle.scoping.specs.Label.{prefix_l, prefix_r, prefix_v}
use Rattle.scoping.specs.Standardize.{standardize_variables, renamed}
use Rattle.scoping.specs.Premises.{columns_at, side_name, inside}
use Rattle.scoping.specs.Rename.{rename_in_graph_pattern}
use Rattle.scoping.proofs.NewVariables.{numbered-few}
use Rattle.algebra.specs.Valid.{mem}
use Rattle.scoping.specs.Sets.{keep}
use Rattle.merging.specs.Sides.{Constant, Side, column_at, constant_columns, constant_terms, bind_constants, without_constants, renamed_columns, renamed_pattern, free_columns, left_join_variables, merged_columns, merged, lefts, rights, standardized}
use Rattle.scoping.proofs.Basics.{map-map, any-map}
use Rattle.merging.specs.Request.{Projection, tree, as_project, placed, by_position, Request, request, left_side, right_side, positions, all_inside}
use Rattle.merging.specs.Merge.{merge_project_patterns}
use Rattle.merging.specs.Push.{push_constants_in_project_pattern}
use Rattle.merging.specs.Negate.{modify_outermost_projection, negate_project_pattern}
use Rattle.merging.proofs.Names.{side-variable}
use Rattle.merging.proofs.Written.{Known}
use Rattle.laws.proofs.Erased.{erased, var-stays}
use Rattle.laws.proofs.ErasedTree.{erased_tree, erased_os, erased_as}
use Rattle.laws.proofs.ErasedNames.{numbered-erased, rename-erased}

abbrev pub on_option : {A B : Type 0} → (A → B) → Option A → Option B
on_option f none = none
on_option f (some a) = some (f a)

module _ (may : Bytes → Bool) where
  -- ---- what is erased

  abbrev pub erased_constant : Constant → Constant
  erased_constant k = record { position = k.position; term = erased may k.term }

  abbrev pub erased_projection : Projection → Projection
  erased_projection x = record { columns = x.columns; inner = erased_tree may x.inner }

  abbrev pub erased_request : Request → Request
  erased_request m = request (erased_projection m.left) (erased_projection m.right) m.joins (map erased_constant m.left_constants) (map erased_constant m.right_constants)

  -- ---- constants

  columns-erased : (cs : List Bytes) (ks : List Constant) → constant_columns cs (map erased_constant ks) ≡ constant_columns cs ks
  columns-erased cs ks = map-map (λ (k : Constant). column_at cs k.position) erased_constant ks

  terms-erased : (ks : List Constant) → constant_terms (map erased_constant ks) ≡ map (erased may) (constant_terms ks)
  terms-erased ks = map-map (λ (k : Constant). k.term) erased_constant ks ∙ sym (map-map (erased may) (λ (k : Constant). k.term) ks)

  pub positions-erased : (ks : List Constant) → positions (map erased_constant ks) ≡ positions ks
  positions-erased ks = map-map (λ (k : Constant). k.position) erased_constant ks

  bind-erased : (p : Pattern) (cs : List Bytes) (ks : List Constant) → bind_constants (erased_tree may p) cs (map erased_constant ks) ≡ erased_tree may (bind_constants p cs ks)
  unfolding bind_constants erased_tree
  bind-erased p cs [] = refl
  bind-erased p cs (k ∷ ks) = ap₂ (λ (c t : List Bytes). join (erased_tree may p) (values c (t ∷ []))) (columns-erased cs (k ∷ ks)) (terms-erased (k ∷ ks))

  free-erased : (i : ℕ) (cs : List Bytes) (ks : List Constant) → without_constants i cs (map erased_constant ks) ≡ without_constants i cs ks
  unfolding without_constants
  free-erased i [] ks = refl
  free-erased i (c ∷ cs) ks = ap₂ (λ (b : Bool) (l : List Bytes). cond b l (c ∷ l)) (any-map (λ (k : Constant). eqb k.position i) erased_constant ks) (free-erased (suc i) cs ks)

  placed-erased : (k : Constant) (ks : List Constant) → placed (erased_constant k) (map erased_constant ks) ≡ map erased_constant (placed k ks)
  unfolding placed
  placed-erased k [] = refl
  placed-erased k (x ∷ xs) = go (ltb k.position x.position) (placed-erased k xs)
    where
      go : (t : Bool) → placed (erased_constant k) (map erased_constant xs) ≡ map erased_constant (placed k xs)
          → cond t (erased_constant k ∷ erased_constant x ∷ map erased_constant xs) (erased_constant x ∷ placed (erased_constant k) (map erased_constant xs)) ≡ map erased_constant (cond t (k ∷ x ∷ xs) (x ∷ placed k xs))
      go true r = refl
      go false r = ap (λ (l : List Constant). erased_constant x ∷ l) r

  pub sorted-erased : (ks : List Constant) → by_position (map erased_constant ks) ≡ map erased_constant (by_position ks)
  unfolding by_position
  sorted-erased [] = refl
  sorted-erased (k ∷ ks) = ap (placed (erased_constant k)) (sorted-erased ks) ∙ placed-erased k (by_position ks)

  -- ---- one side

  module _ (prefix : ℕ) (x : Projection) (is : List ℕ) (ks : List Constant) (known : Known prefix x is ks) where
    abbrev side : Side
    side = standardized prefix x.columns x.inner is ks

    abbrev erased_side : Side
    erased_side = standardized prefix x.columns (erased_tree may x.inner) is (map erased_constant ks)

    pub name-same : erased_side.name ≡ side.name
    unfolding side_name erased_tree
    name-same = λ i. λ w. renamed (standardize_variables prefix (numbered-erased may (project x.columns x.inner) i) (columns_at x.columns is)) w

    stays : (v : Bytes) → is_var v ≡ true → erased may (side.name v) ≡ side.name v
    stays v h =
        let a = numbered-few (tree x) in
        let b = known.names in
        let c = known.pairs in
        var-stays may (side.name v) (side-variable prefix x.columns x.inner is known.letter (omega arith) (omega arith) v h)

    inner-same : rename_in_graph_pattern erased_side.name (erased_tree may x.inner) ≡ erased_tree may (rename_in_graph_pattern side.name x.inner)
    inner-same = ap (λ (f : Bytes → Bytes). rename_in_graph_pattern f (erased_tree may x.inner)) name-same ∙ rename-erased may side.name stays x.inner

    pub columns-same : renamed_columns erased_side ≡ renamed_columns side
    columns-same = ap (λ (f : Bytes → Bytes). map f x.columns) name-same

    pub pattern-same : renamed_pattern erased_side ≡ erased_tree may (renamed_pattern side)
    unfolding renamed_pattern
    pattern-same = ap₂ (λ (p : Pattern) (cs : List Bytes). bind_constants p cs (map erased_constant ks)) inner-same columns-same ∙ bind-erased (rename_in_graph_pattern side.name x.inner) (renamed_columns side) ks

    pub free-same : free_columns erased_side ≡ free_columns side
    unfolding free_columns
    free-same = ap (λ (cs : List Bytes). without_constants 0 cs (map erased_constant ks)) columns-same ∙ free-erased 0 (renamed_columns side) ks

  -- ---- merge

  module _ (m : Request) (a : Known prefix_l m.left (lefts m.joins) m.left_constants) (b : Known prefix_r m.right (rights m.joins) m.right_constants) where
    merged-columns-same : merged_columns (left_side (erased_request m)) (right_side (erased_request m)) m.joins ≡ merged_columns (left_side m) (right_side m) m.joins
    unfolding merged_columns
    merged-columns-same = λ i.
        free-same prefix_l m.left (lefts m.joins) m.left_constants a i
        ++ keep (λ c. not (mem c (map (name-same prefix_l m.left (lefts m.joins) m.left_constants a i) (left_join_variables (left_side m) m.joins)))) (free-same prefix_r m.right (rights m.joins) m.right_constants b i)

    pub merged-erased : merge_project_patterns (erased_request m) ≡ erased_tree may (merge_project_patterns m)
    unfolding merge_project_patterns merged erased_tree
    merged-erased = λ i. project (merged-columns-same i) (join (pattern-same prefix_l m.left (lefts m.joins) m.left_constants a i) (pattern-same prefix_r m.right (rights m.joins) m.right_constants b i))

  pub inside-erased : (m : Request) → all_inside (erased_request m) ≡ all_inside m
  unfolding all_inside
  inside-erased m = λ i.
      (inside m.left.columns (lefts m.joins) && inside m.right.columns (rights m.joins))
      && (inside m.left.columns (positions-erased m.left_constants i) && inside m.right.columns (positions-erased m.right_constants i))

  -- ---- push and negate

  pub push-erased : (x : Projection) (ks : List Constant) → Known prefix_v x [] ks → push_constants_in_project_pattern (erased_projection x) (map erased_constant ks) ≡ erased_tree may (push_constants_in_project_pattern x ks)
  unfolding push_constants_in_project_pattern erased_tree
  push-erased x ks k = λ i. project (free-same prefix_v x [] ks k i) (pattern-same prefix_v x [] ks k i)

  abbrev unless : List Bytes → Pattern → Pattern
  unless cs q = filter (bgp []) (apply NOT (econs (exists q) eend))

  modify-erased : (p : Pattern) → modify_outermost_projection unless (erased_tree may p) ≡ erased_tree may (modify_outermost_projection unless p)
  unfolding modify_outermost_projection erased_tree
  modify-erased (project cs p) = refl
  modify-erased (distinct p) = ap distinct (modify-erased p)
  modify-erased (reduced p) = ap reduced (modify-erased p)
  modify-erased (slice s l p) = ap (slice s l) (modify-erased p)
  modify-erased (orderby p os) = ap (λ (q : Pattern). orderby q (erased_os may os)) (modify-erased p)
  modify-erased (group ks p rs) = ap (λ (q : Pattern). group ks q (erased_as may rs)) (modify-erased p)
  modify-erased (bgp ts) = refl
  modify-erased (path s t o) = refl
  modify-erased (join p q) = refl
  modify-erased (leftjoin p q c) = refl
  modify-erased (filter p e) = refl
  modify-erased (union p q) = refl
  modify-erased (graph n p) = refl
  modify-erased (extend v p e) = refl
  modify-erased (minus p q) = refl
  modify-erased (values cs rs) = refl
  modify-erased (service n s p) = refl

  pub negate-erased : (p : Pattern) → negate_project_pattern (erased_tree may p) ≡ erased_tree may (negate_project_pattern p)
  unfolding negate_project_pattern
  negate-erased p = modify-erased p

  -- ---- roots

  pub root-erased : (p : Pattern) → as_project (erased_tree may p) ≡ on_option erased_projection (as_project p)
  unfolding as_project erased_tree
  root-erased (project cs p) = refl
  root-erased (distinct p) = refl
  root-erased (reduced p) = refl
  root-erased (slice s l p) = refl
  root-erased (orderby p os) = refl
  root-erased (group ks p rs) = refl
  root-erased (bgp ts) = refl
  root-erased (path s t o) = refl
  root-erased (join p q) = refl
  root-erased (leftjoin p q c) = refl
  root-erased (filter p e) = refl
  root-erased (union p q) = refl
  root-erased (graph n p) = refl
  root-erased (extend v p e) = refl
  root-erased (minus p q) = refl
  root-erased (values cs rs) = refl
  root-erased (service n s p) = refl
