-- Under demand 3's premises the merged tree meets all that is supposed of a tree: so it can be merged again, and counted again. Assumes nothing.
use mathlib.Core.Path.{◌≡◌, refl, sym, ap, ◌∙◌}
use mathlib.Core.Logic.{◌⊎◌, inl, inr}
use mathlib.Core.Bool.{Bool, true, false, cond, not}
use mathlib.Core.List.{List, [], ◌∷◌, ◌++◌, map}
use Prim.Native.Nat.{ℕ, suc, ◌+◌, ◌<◌}
use native.Mathlib.Omega.{arith}
use lib.Dec.{eqb}
use lib.ListN.{length}
use borrow.Author.Tests.{eqb-true}
use Rattle.text.specs.Text.{Bytes}
use Rattle.text.proofs.Basics.{and_both}
use Rattle.algebra.specs.Tree.{Pattern, project}
use Rattle.algebra.specs.Valid.{mem, different}
use Rattle.scoping.specs.Sets.{any, all, keep}
use Rattle.scoping.specs.Label.{is_label, prefix_l, prefix_r}
use Rattle.scoping.specs.Numbering.{numbered}
use Rattle.scoping.specs.Premises.{side_name}
use Rattle.scoping.specs.Rename.{rename_in_graph_pattern}
use Rattle.scoping.specs.ScopedOrHidden.{names_with, scoped_or_hidden}
use Rattle.scoping.proofs.Sets.{mem-keep}
use Rattle.scoping.specs.bridge.Sets.{Sub}
use Rattle.counting.specs.Scope.{names}
use Rattle.counting.specs.Countable.{everywhere, is_countable, extends_fresh, values_once, expressions_known}
use Rattle.scoping.proofs.Basics.{clash, split, either, or_cases, mem-nil, mem-eq, mem-there, mem-cases, mem-left, mem-right, mem-append-cases, mem-map, mem-unmap, all-at, all_of}
use Rattle.turns.proofs.Kept.{countable-kept, fresh_kept, once-kept, names-kept, scoped-kept, scoped-names}
use Rattle.merging.specs.Sides.{Pair, Constant, Side, column_at, constant_columns, bind_constants, without_constants, renamed_columns, renamed_pattern, free_columns, left_join_variables, merged_columns, merged, lefts, rights, standardized}
use Rattle.merging.specs.Request.{Projection, tree, Request, left_side, right_side, positions}
use Rattle.merging.specs.Merge.{merge_project_patterns}
use Rattle.demand3.specs.Demand3.{Supposed, Premises}
use Rattle.demand3.proofs.Fit.{SideFit, Fit}
use Rattle.demand3.proofs.Fits.{columns-at-different, sides-fit}
use Rattle.merging.proofs.Positions.{positions-in}
use Rattle.demand3.proofs.Side.{map-sub, columns-in}
use Rattle.merging.proofs.Written.{Known, inside-map}
use Rattle.turns.proofs.Again.{map-different, merged-once, merged-plain}

-- ---- a column is free, or stands in the Values

column-of : (cs : List Bytes) (i : ℕ) (ks : List Constant) → any (λ k. eqb k.position i) ks ≡ true → mem (column_at cs i) (constant_columns cs ks) ≡ true
unfolding any
column-of cs i [] h = clash refl (sym h)
column-of cs i (k ∷ ks) h = either
    (λ e. mem-eq (column_at cs i) (column_at cs k.position) (constant_columns cs ks) (ap (column_at cs) (sym (eqb-true k.position i e))))
    (λ t. mem-there (column_at cs i) (column_at cs k.position) (constant_columns cs ks) (column-of cs i ks t))
    (or_cases (eqb k.position i) (any (λ k. eqb k.position i) ks) h)

free-or-bound : (full : List Bytes) (ks : List Constant) (v : Bytes) (i : ℕ) (cs : List Bytes) → ((j : ℕ) → j < length cs → column_at full (i + j) ≡ column_at cs j) → mem v cs ≡ true
    → (mem v (without_constants i cs ks) ≡ true) ⊎ (mem v (constant_columns full ks) ≡ true)
unfolding without_constants
free-or-bound full ks v i [] h m = mem-nil v m
free-or-bound full ks v i (c ∷ cs) h m =
    go (any (λ k. eqb k.position i) ks) refl (mem-cases v c cs m)
    (λ t. free-or-bound full ks v (suc i) cs (λ j l. ap (column_at full) (let e : suc i + j ≡ i + suc j = omega arith in e) ∙ h (suc j) (omega arith)) t)
  where
    here : column_at full i ≡ c
    here = ap (column_at full) (let e : i ≡ i + 0 = omega arith in e) ∙ h 0 (omega arith)

    go : (t : Bool) → any (λ k. eqb k.position i) ks ≡ t → ((v ≡ c) ⊎ (mem v cs ≡ true)) → (mem v cs ≡ true → (mem v (without_constants (suc i) cs ks) ≡ true) ⊎ (mem v (constant_columns full ks) ≡ true))
        → (mem v (cond t (without_constants (suc i) cs ks) (c ∷ without_constants (suc i) cs ks)) ≡ true) ⊎ (mem v (constant_columns full ks) ≡ true)
    go true e x r = either (λ y. inr (ap (λ (z : Bytes). mem z (constant_columns full ks)) (y ∙ sym here) ∙ column-of full i ks e)) r x
    go false e x r = either (λ y. inl (mem-eq v c (without_constants (suc i) cs ks) y)) (λ y. either (λ z. inl (mem-there v c (without_constants (suc i) cs ks) z)) (λ z. inr z) (r y)) x

-- ---- one side

module _ (prefix : ℕ) (x : Projection) (is : List ℕ) (ks : List Constant) (k : Known prefix x is ks) (s : Supposed x) (fit : SideFit (standardized prefix x.columns x.inner is ks)) where
  abbrev side : Side
  side = standardized prefix x.columns x.inner is ks

  abbrev name : Bytes → Bytes
  name = side_name prefix x.columns x.inner is

  abbrev all-names : List Bytes
  all-names = names (tree x)

  abbrev inner : Pattern
  inner = rename_in_graph_pattern name x.inner

  inner-in : Sub (names x.inner) all-names
  unfolding names_with
  inner-in v h = mem-right v x.columns (names x.inner) h

  new-once : different (renamed_columns side) ≡ true
  new-once = map-different name x.columns (λ a b h j. fit.apart a b (columns-in side fit a h) (columns-in side fit b j)) s.columns_once

  constants-once : different (constant_columns (renamed_columns side) ks) ≡ true
  constants-once = columns-at-different (renamed_columns side) new-once (λ (c : Constant). c.position) ks (inside-map name x.columns (positions ks) k.constants-inside) k.constants-good.different

  pub side-countable : is_countable (renamed_pattern side) ≡ true
  unfolding renamed_pattern bind_constants is_countable everywhere
  side-countable = go ks
    where
      base : is_countable inner ≡ true
      base = countable-kept all-names name fit.apart fit.variables x.inner inner-in ∙ s.countable

      go : (cs : List Constant) → is_countable (bind_constants inner (renamed_columns side) cs) ≡ true
      go [] = base
      go (c ∷ cs) = and_both (is_countable inner) true base refl

  pub side-fresh : extends_fresh (renamed_pattern side) ≡ true
  unfolding renamed_pattern bind_constants extends_fresh everywhere
  side-fresh = go ks
    where
      base : extends_fresh inner ≡ true
      base = fresh_kept all-names name fit.apart fit.variables x.inner inner-in ∙ s.extends_fresh

      go : (cs : List Constant) → extends_fresh (bind_constants inner (renamed_columns side) cs) ≡ true
      go [] = base
      go (c ∷ cs) = and_both (extends_fresh inner) true base refl

  pub side-once : values_once (renamed_pattern side) ≡ true
  unfolding renamed_pattern bind_constants values_once everywhere
  side-once = go ks constants-once
    where
      base : values_once inner ≡ true
      base = once-kept all-names name fit.apart fit.variables x.inner inner-in ∙ s.values_once

      go : (cs : List Constant) → different (constant_columns (renamed_columns side) cs) ≡ true → values_once (bind_constants inner (renamed_columns side) cs) ≡ true
      go [] d = base
      go (c ∷ cs) d = and_both (values_once inner) (different (constant_columns (renamed_columns side) (c ∷ cs))) base d

  -- a name of the side's pattern is in scope or hidden there, or is a column
  inner-shown : (v : Bytes) → mem v (names inner) ≡ true → (mem v (scoped_or_hidden inner) ≡ true) ⊎ (mem v (renamed_columns side) ≡ true)
  unfolding expressions_known names_with
  inner-shown v h =
      let u = mem-unmap name v (names x.inner) (ap (mem v) (sym (names-kept all-names name fit.apart fit.variables x.inner inner-in)) ∙ h) in
      let w = all-at (λ z. mem z (scoped_or_hidden (tree x))) all-names s.expressions_known u.0 (inner-in u.0 u.1) in
      either
      (λ c. inr (ap (λ (z : Bytes). mem z (renamed_columns side)) u.2 ∙ mem-map name u.0 x.columns c))
      (λ c. inl (ap (λ (z : Bytes). mem z (scoped_or_hidden inner)) u.2 ∙ ap (mem (name u.0)) (scoped-kept all-names name fit.apart fit.variables x.inner scoped-in) ∙ mem-map name u.0 (scoped_or_hidden x.inner) c))
      (mem-append-cases u.0 x.columns (scoped_or_hidden x.inner) w)
    where
      scoped-in : Sub (scoped_or_hidden x.inner) all-names
      scoped-in z m = inner-in z (scoped-names x.inner z m)

  pattern-shown : (v : Bytes) → mem v (names (renamed_pattern side)) ≡ true → (mem v (scoped_or_hidden (renamed_pattern side)) ≡ true) ⊎ (mem v (renamed_columns side) ≡ true)
  unfolding renamed_pattern bind_constants names_with
  pattern-shown v = go ks
    where
      go : (cs : List Constant) → mem v (names (bind_constants inner (renamed_columns side) cs)) ≡ true → (mem v (scoped_or_hidden (bind_constants inner (renamed_columns side) cs)) ≡ true) ⊎ (mem v (renamed_columns side) ≡ true)
      go [] h = inner-shown v h
      go (c ∷ cs) h =
          let bound = constant_columns (renamed_columns side) (c ∷ cs) in
          either (λ m. either (λ z. inl (mem-left v (scoped_or_hidden inner) bound z)) (λ z. inr z) (inner-shown v m)) (λ m. inl (mem-right v (scoped_or_hidden inner) bound m)) (mem-append-cases v (names inner) bound h)

  -- a column is free, or in scope there by its constant
  column-shown : (v : Bytes) → mem v (renamed_columns side) ≡ true → (mem v (free_columns side) ≡ true) ⊎ (mem v (scoped_or_hidden (renamed_pattern side)) ≡ true)
  unfolding renamed_pattern bind_constants names_with free_columns
  column-shown v h = either (λ z. inl z) (λ z. inr (go ks z)) (free-or-bound (renamed_columns side) ks v 0 (renamed_columns side) (λ j l. ap (column_at (renamed_columns side)) (let e : 0 + j ≡ j = omega arith in e)) h)
    where
      go : (cs : List Constant) → mem v (constant_columns (renamed_columns side) cs) ≡ true → mem v (scoped_or_hidden (bind_constants inner (renamed_columns side) cs)) ≡ true
      go [] m = mem-nil v m
      go (c ∷ cs) m = mem-right v (scoped_or_hidden inner) (constant_columns (renamed_columns side) (c ∷ cs)) m

-- ---- both

two-countable : (m : Request) → is_countable (renamed_pattern (left_side m)) ≡ true → is_countable (renamed_pattern (right_side m)) ≡ true → is_countable (merge_project_patterns m) ≡ true
unfolding merge_project_patterns merged is_countable everywhere
two-countable m p q = and_both (is_countable (renamed_pattern (left_side m))) (is_countable (renamed_pattern (right_side m))) p q

two-fresh : (m : Request) → extends_fresh (renamed_pattern (left_side m)) ≡ true → extends_fresh (renamed_pattern (right_side m)) ≡ true → extends_fresh (merge_project_patterns m) ≡ true
unfolding merge_project_patterns merged extends_fresh everywhere
two-fresh m p q = and_both (extends_fresh (renamed_pattern (left_side m))) (extends_fresh (renamed_pattern (right_side m))) p q

two-once : (m : Request) → values_once (renamed_pattern (left_side m)) ≡ true → values_once (renamed_pattern (right_side m)) ≡ true → values_once (merge_project_patterns m) ≡ true
unfolding merge_project_patterns merged values_once everywhere
two-once m p q = and_both (values_once (renamed_pattern (left_side m))) (values_once (renamed_pattern (right_side m))) p q

same-columns : {cs ds : List Bytes} {p q : Pattern} → project cs p ≡ project ds q → cs ≡ ds
same-columns e = cc

root : (m : Request) (x : Projection) → tree x ≡ merge_project_patterns m → x.columns ≡ merged_columns (left_side m) (right_side m) m.joins
unfolding merge_project_patterns merged
root m x e = same-columns e

module _ (m : Request) (a : Known prefix_l m.left (lefts m.joins) m.left_constants) (b : Known prefix_r m.right (rights m.joins) m.right_constants) (s : Premises m) where
  abbrev l : Side
  l = left_side m

  abbrev r : Side
  r = right_side m

  abbrev fit : Fit l r m.joins
  fit = sides-fit m a b s

  abbrev join_names : List Bytes
  join_names = map l.name (left_join_variables l m.joins)

  abbrev columns : List Bytes
  columns = merged_columns l r m.joins

  abbrev below : List Bytes
  below = scoped_or_hidden (renamed_pattern l) ++ scoped_or_hidden (renamed_pattern r)

  left-shown : (v : Bytes) → mem v (renamed_columns l) ≡ true → mem v (columns ++ below) ≡ true
  unfolding merged_columns
  left-shown v h = either
      (λ z. mem-left v columns below (mem-left v (free_columns l) (keep (λ c. not (mem c join_names)) (free_columns r)) z))
      (λ z. mem-right v columns below (mem-left v (scoped_or_hidden (renamed_pattern l)) (scoped_or_hidden (renamed_pattern r)) z))
      (column-shown prefix_l m.left (lefts m.joins) m.left_constants a s.left fit.left v h)

  joined-left : (v : Bytes) → mem v join_names ≡ true → mem v (renamed_columns l) ≡ true
  joined-left v h = map-sub l.name (left_join_variables l m.joins) l.columns (positions-in l.columns (λ (j : Pair). j.left) m.joins a.joins-inside) v h

  right-shown : (v : Bytes) → mem v (renamed_columns r) ≡ true → mem v (columns ++ below) ≡ true
  unfolding merged_columns
  right-shown v h = either
      (λ z. either (λ j. left-shown v (joined-left v j)) (λ j. mem-left v columns below (mem-right v (free_columns l) (keep (λ c. not (mem c join_names)) (free_columns r)) (mem-keep (λ c. not (mem c join_names)) v (free_columns r) ∙ and_both (not (mem v join_names)) (mem v (free_columns r)) (ap not j) z))) (split (mem v join_names)))
      (λ z. mem-right v columns below (mem-right v (scoped_or_hidden (renamed_pattern l)) (scoped_or_hidden (renamed_pattern r)) z))
      (column-shown prefix_r m.right (rights m.joins) m.right_constants b s.right fit.right v h)

  merged-known : expressions_known (merge_project_patterns m) ≡ true
  unfolding expressions_known merge_project_patterns merged names_with
  merged-known = all_of (λ v. mem v (columns ++ below)) (columns ++ (names (renamed_pattern l) ++ names (renamed_pattern r))) λ v h. either
      (λ z. mem-left v columns below z)
      (λ z. either
      (λ w. either (λ y. mem-right v columns below (mem-left v (scoped_or_hidden (renamed_pattern l)) (scoped_or_hidden (renamed_pattern r)) y)) (left-shown v) (pattern-shown prefix_l m.left (lefts m.joins) m.left_constants a s.left fit.left v w))
      (λ w. either (λ y. mem-right v columns below (mem-right v (scoped_or_hidden (renamed_pattern l)) (scoped_or_hidden (renamed_pattern r)) y)) (right-shown v) (pattern-shown prefix_r m.right (rights m.joins) m.right_constants b s.right fit.right v w))
      (mem-append-cases v (names (renamed_pattern l)) (names (renamed_pattern r)) z))
      (mem-append-cases v columns (names (renamed_pattern l) ++ names (renamed_pattern r)) h)

  -- the merged tree meets what is supposed of a tree
  pub merged-supposed : (x : Projection) → tree x ≡ merge_project_patterns m → Supposed x
  merged-supposed x e = record {
    countable = ap is_countable e ∙ both-countable;
    extends_fresh = ap extends_fresh e ∙ both-fresh;
    values_once = ap values_once e ∙ both-once;
    expressions_known = ap expressions_known e ∙ merged-known;
    no_label = ap (λ (p : Pattern). all (λ w. not (is_label w)) (numbered p)) e ∙ merged-plain m a b s;
    columns_once = ap different (root m x e) ∙ merged-once m a b s;
  }
    where
      both-countable : is_countable (merge_project_patterns m) ≡ true
      both-countable = two-countable m (side-countable prefix_l m.left (lefts m.joins) m.left_constants a s.left fit.left) (side-countable prefix_r m.right (rights m.joins) m.right_constants b s.right fit.right)

      both-fresh : extends_fresh (merge_project_patterns m) ≡ true
      both-fresh = two-fresh m (side-fresh prefix_l m.left (lefts m.joins) m.left_constants a s.left fit.left) (side-fresh prefix_r m.right (rights m.joins) m.right_constants b s.right fit.right)

      both-once : values_once (merge_project_patterns m) ≡ true
      both-once = two-once m (side-once prefix_l m.left (lefts m.joins) m.left_constants a s.left fit.left) (side-once prefix_r m.right (rights m.joins) m.right_constants b s.right fit.right)
