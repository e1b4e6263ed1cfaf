-- What a merge makes can be merged again: under demand 3's premises no name of the merged tree ends in "Label", and no column of it stands twice. Assumes nothing.
use mathlib.Core.Path.{◌≡◌, refl, sym, ap, ◌∙◌}
use mathlib.Core.Bool.{Bool, true, false, cond, not}
use mathlib.Core.List.{List, [], ◌∷◌, ◌++◌, map}
use Prim.Native.Nat.{ℕ, suc}
use native.Mathlib.Omega.{arith}
use lib.Dec.{eqb}
use Rattle.text.specs.Text.{Bytes}
use Rattle.text.specs.Field.{is_var}
use Rattle.text.proofs.Basics.{and_left}
use Rattle.algebra.specs.Tree.{join}
use Rattle.algebra.specs.Valid.{mem, different}
use Rattle.algebra.proofs.Lines.{different-head, different-tail, different-both, not-no}
use Rattle.scoping.specs.Sets.{any, all, keep, index_of}
use Rattle.scoping.specs.Label.{is_label, generated, prefix_j, prefix_l, prefix_r}
use Rattle.scoping.specs.Numbering.{numbered}
use Rattle.scoping.specs.Variables.{variables_in_pattern, scope_of}
use Rattle.scoping.specs.Premises.{columns_at, inside, side_name}
use Rattle.scoping.specs.bridge.Premises.{is_pair}
use Rattle.scoping.specs.Rename.{rename_in_graph_pattern}
use Rattle.scoping.proofs.Sets.{eq-same, mem-keep}
use Rattle.scoping.proofs.Closed.{target}
use Rattle.turns.proofs.Ends.{generated-plain}
use Rattle.scoping.proofs.Numbered.{numbered-mem}
use Rattle.scoping.proofs.NewVariables.{numbered-few}
use Rattle.scoping.proofs.Renamed.{variables-renamed}
use Rattle.scoping.proofs.Theorem.{column-numbered, side-target}
use Rattle.scoping.specs.bridge.Sets.{Sub, Inj}
use Rattle.counting.specs.Scope.{names}
use Rattle.scoping.proofs.Basics.{clash, not-true, or_cases, or_inr, either, mem-nil, mem-here, mem-there, mem-append-cases, mem-left, mem-right, mem-map, mem-unmap, all_of, keep-sub}
use Rattle.merging.specs.Sides.{Constant, Side, constant_columns, bind_constants, without_constants, renamed_columns, renamed_pattern, free_columns, left_join_variables, merged_columns, merged, lefts, rights, standardized}
use Rattle.demand3.specs.bridge.Sides.{right_join_variables}
use Rattle.merging.specs.Request.{Projection, tree, Request, left_side, right_side, positions}
use Rattle.merging.specs.Merge.{merge_project_patterns}
use Rattle.demand3.specs.Demand3.{Supposed, Premises}
use Rattle.demand3.proofs.Fit.{SideFit, Fit}
use Rattle.demand3.proofs.Fits.{names_of, sides-fit}
use Rattle.demand3.proofs.Merge.{pair-in}
use Rattle.merging.proofs.Names.{side-variable}
use Rattle.merging.proofs.Positions.{positions-in, free-sub}
use Rattle.merging.proofs.Positions.{without_sub}
use Rattle.demand3.proofs.Side.{columns-in}
use Rattle.merging.proofs.Written.{Known, inside-map, merged-valid}

-- ---- names

-- none of them ends in "Label"
abbrev AllPlain : List Bytes → Type 0
AllPlain vs = (v : Bytes) → mem v vs ≡ true → is_label v ≡ false

both-plain : (xs ys : List Bytes) → AllPlain xs → AllPlain ys → AllPlain (xs ++ ys)
both-plain xs ys a b v h = either (a v) (b v) (mem-append-cases v xs ys h)

none-plain : AllPlain []
none-plain v h = mem-nil v h

module _ (prefix : ℕ) (x : Projection) (is : List ℕ) (ks : List Constant) (k : Known prefix x is ks) (s : Supposed x) where
  abbrev side : Side
  side = standardized prefix x.columns x.inner is ks

  abbrev name : Bytes → Bytes
  name = side_name prefix x.columns x.inner is

  -- a numbered name gets a generated one
  new-plain : (u : Bytes) → mem u (numbered (tree x)) ≡ true → is_label (name u) ≡ false
  unfolding target
  new-plain u h = ap is_label (side-target x.columns x.inner is (names_of prefix x is ks k s) prefix u h) ∙ go (mem u (columns_at x.columns is)) (index_of u (columns_at x.columns is)) (index_of u (numbered (tree x)))
    where
      go : (t : Bool) (m n : ℕ) → is_label (cond t (generated prefix_j m) (generated prefix n)) ≡ false
      go true m n = generated-plain prefix_j m
      go false m n = generated-plain prefix n

  names-plain : (vs : List Bytes) → Sub vs (numbered (tree x)) → AllPlain (map name vs)
  names-plain vs s w h = let u = mem-unmap name w vs h in ap is_label u.2 ∙ new-plain u.0 (s u.0 u.1)

  columns-numbered : Sub x.columns (numbered (tree x))
  columns-numbered w h = column-numbered x.columns x.inner is (names_of prefix x is ks k s) w h

  scope-numbered : Sub (variables_in_pattern x.inner).in_scope (numbered (tree x))
  unfolding variables_in_pattern
  scope-numbered w h =
      numbered-mem (tree x) k.valid w
      ∙ or_inr (mem w x.columns) _ (mem-left w ((variables_in_pattern x.inner).hidden ++ (variables_in_pattern x.inner).in_scope) [] (mem-right w (variables_in_pattern x.inner).hidden (variables_in_pattern x.inner).in_scope h))

  hidden-numbered : Sub (variables_in_pattern x.inner).hidden (numbered (tree x))
  unfolding variables_in_pattern
  hidden-numbered w h =
      numbered-mem (tree x) k.valid w
      ∙ or_inr (mem w x.columns) _ (mem-left w ((variables_in_pattern x.inner).hidden ++ (variables_in_pattern x.inner).in_scope) [] (mem-left w (variables_in_pattern x.inner).hidden (variables_in_pattern x.inner).in_scope h))

  to-variables : (v : Bytes) → is_var v ≡ true → is_var (name v) ≡ true
  to-variables v h =
      let a = numbered-few (tree x) in
      let b = k.names in
      let c = k.pairs in
      side-variable prefix x.columns x.inner is k.letter (omega arith) (omega arith) v h

  new-columns-plain : AllPlain (renamed_columns side)
  new-columns-plain = names-plain x.columns columns-numbered

  inner-scope : AllPlain (variables_in_pattern (rename_in_graph_pattern name x.inner)).in_scope
  inner-scope v h = names-plain (variables_in_pattern x.inner).in_scope scope-numbered v (ap (λ z. mem v z.in_scope) (sym (variables-renamed name to-variables x.inner)) ∙ h)

  inner-hidden : AllPlain (variables_in_pattern (rename_in_graph_pattern name x.inner)).hidden
  inner-hidden v h = names-plain (variables_in_pattern x.inner).hidden hidden-numbered v (ap (λ z. mem v z.hidden) (sym (variables-renamed name to-variables x.inner)) ∙ h)

  pub pattern-scope : AllPlain (variables_in_pattern (renamed_pattern side)).in_scope
  unfolding renamed_pattern bind_constants variables_in_pattern
  pattern-scope = go ks k.constants-inside
    where
      go : (cs : List Constant) → inside x.columns (positions cs) ≡ true → AllPlain (variables_in_pattern (bind_constants (rename_in_graph_pattern name x.inner) (renamed_columns side) cs)).in_scope
      go [] i = inner-scope
      go (c ∷ cs) i = both-plain _ (constant_columns (renamed_columns side) (c ∷ cs)) inner-scope
          (λ v h. new-columns-plain v (positions-in (renamed_columns side) (λ (z : Constant). z.position) (c ∷ cs) (inside-map name x.columns (positions (c ∷ cs)) i) v h))

  pub pattern-hidden : AllPlain (variables_in_pattern (renamed_pattern side)).hidden
  unfolding renamed_pattern bind_constants variables_in_pattern
  pattern-hidden = go ks
    where
      go : (cs : List Constant) → AllPlain (variables_in_pattern (bind_constants (rename_in_graph_pattern name x.inner) (renamed_columns side) cs)).hidden
      go [] = inner-hidden
      go (c ∷ cs) = both-plain _ [] inner-hidden none-plain

  pub free-plain : AllPlain (free_columns side)
  free-plain v h = new-columns-plain v (free-sub side v h)

-- ---- lists in which nothing stands twice

pub map-different : (f : Bytes → Bytes) (xs : List Bytes) → Inj xs f → different xs ≡ true → different (map f xs) ≡ true
unfolding different
map-different f [] i d = refl
map-different f (x ∷ xs) i d = different-both (f x) (map f xs)
    (not-true (mem (f x) (map f xs)) (λ m. let u = mem-unmap f (f x) xs m in clash (ap (λ (z : Bytes). mem z xs) (i x u.0 (mem-here x xs) (mem-there u.0 x xs u.1) u.2) ∙ u.1) (different-head x xs d)))
    (map-different f xs (λ a b h k. i a b (mem-there a x xs h) (mem-there b x xs k)) (different-tail x xs d))

without-different : (i : ℕ) (cs : List Bytes) (ks : List Constant) → different cs ≡ true → different (without_constants i cs ks) ≡ true
unfolding without_constants different
without-different i [] ks d = refl
without-different i (c ∷ cs) ks d = go (any (λ k. eqb k.position i) ks) (without-different (suc i) cs ks (different-tail c cs d))
  where
    go : (t : Bool) → different (without_constants (suc i) cs ks) ≡ true → different (cond t (without_constants (suc i) cs ks) (c ∷ without_constants (suc i) cs ks)) ≡ true
    go true r = r
    go false r = different-both c (without_constants (suc i) cs ks) (not-true (mem c (without_constants (suc i) cs ks)) (λ m. clash (without_sub (suc i) cs ks c m) (different-head c cs d))) r

keep-different : (f : Bytes → Bool) (xs : List Bytes) → different xs ≡ true → different (keep f xs) ≡ true
unfolding keep different
keep-different f [] d = refl
keep-different f (x ∷ xs) d = go (f x) (keep-different f xs (different-tail x xs d))
  where
    go : (t : Bool) → different (keep f xs) ≡ true → different (cond t (x ∷ keep f xs) (keep f xs)) ≡ true
    go true r = different-both x (keep f xs) (not-true (mem x (keep f xs)) (λ m. clash (keep-sub f xs x m) (different-head x xs d))) r
    go false r = r

append-different : (xs ys : List Bytes) → different xs ≡ true → different ys ≡ true → ((v : Bytes) → mem v xs ≡ true → mem v ys ≡ true → ⊥) → different (xs ++ ys) ≡ true
unfolding different
append-different [] ys d e n = e
append-different (x ∷ xs) ys d e n = different-both x (xs ++ ys)
    (not-true (mem x (xs ++ ys)) (λ m. either (λ h. clash h (different-head x xs d)) (λ h. n x (mem-here x xs) h) (mem-append-cases x xs ys m)))
    (append-different xs ys (different-tail x xs d) e (λ v h. n v (mem-there v x xs h)))

-- ---- both sides

side-columns-once : (s : Side) → SideFit s → different s.columns ≡ true → different (free_columns s) ≡ true
unfolding free_columns
side-columns-once s f d = without-different 0 (renamed_columns s) s.constants (map-different s.name s.columns (λ a b h k. f.apart a b (columns-in s f a h) (columns-in s f b k)) d)

module _ (m : Request) (a : Known prefix_l m.left (lefts m.joins) m.left_constants) (b : Known prefix_r m.right (rights m.joins) m.right_constants) (s : Premises m) where
  abbrev l : Side
  l = left_side m

  abbrev r : Side
  r = right_side m

  abbrev join_names : List Bytes
  join_names = map l.name (left_join_variables l m.joins)

  abbrev fit : Fit l r m.joins
  fit = sides-fit m a b s

  apart : (v : Bytes) → mem v (free_columns l) ≡ true → mem v (keep (λ c. not (mem c join_names)) (free_columns r)) ≡ true → ⊥
  apart v h k =
      let u = mem-unmap l.name v l.columns (free-sub l v h) in
      let w = mem-unmap r.name v r.columns (free-sub r v (keep-sub (λ c. not (mem c join_names)) (free_columns r) v k)) in
      let p : is_pair (left_join_variables l m.joins) (right_join_variables r m.joins) u.0 w.0 ≡ true =
      sym (fit.joined u.0 w.0 (columns-in l fit.left u.0 u.1) (columns-in r fit.right w.0 w.1)) ∙ eq-same (l.name u.0) (r.name w.0) (sym u.2 ∙ w.2) in
      let j : mem v join_names ≡ true = ap (λ (z : Bytes). mem z join_names) u.2 ∙ mem-map l.name u.0 (left_join_variables l m.joins) (pair-in (left_join_variables l m.joins) (right_join_variables r m.joins) u.0 w.0 p).0 in
      clash j (not-no (mem v join_names) (and_left (not (mem v join_names)) (mem v (free_columns r)) (sym (mem-keep (λ c. not (mem c join_names)) v (free_columns r)) ∙ k)))

  -- no column of the merged tree stands twice
  pub merged-once : different (merged_columns l r m.joins) ≡ true
  unfolding merged_columns
  merged-once = append-different (free_columns l) (keep (λ c. not (mem c join_names)) (free_columns r)) (side-columns-once l fit.left s.left.columns_once)
      (keep-different (λ c. not (mem c join_names)) (free_columns r) (side-columns-once r fit.right s.right.columns_once)) apart

  in-scope-plain : AllPlain (variables_in_pattern (join (renamed_pattern l) (renamed_pattern r))).in_scope
  unfolding variables_in_pattern
  in-scope-plain = both-plain (scope_of (renamed_pattern l)) (scope_of (renamed_pattern r)) (pattern-scope prefix_l m.left (lefts m.joins) m.left_constants a s.left) (pattern-scope prefix_r m.right (rights m.joins) m.right_constants b s.right)

  hidden-plain : AllPlain (variables_in_pattern (join (renamed_pattern l) (renamed_pattern r))).hidden
  unfolding variables_in_pattern
  hidden-plain = both-plain (variables_in_pattern (renamed_pattern l)).hidden (variables_in_pattern (renamed_pattern r)).hidden (pattern-hidden prefix_l m.left (lefts m.joins) m.left_constants a s.left) (pattern-hidden prefix_r m.right (rights m.joins) m.right_constants b s.right)

  columns-plain : AllPlain (merged_columns l r m.joins)
  unfolding merged_columns
  columns-plain = both-plain (free_columns l) (keep (λ c. not (mem c join_names)) (free_columns r)) (free-plain prefix_l m.left (lefts m.joins) m.left_constants a s.left)
      (λ v h. free-plain prefix_r m.right (rights m.joins) m.right_constants b s.right v (keep-sub (λ c. not (mem c join_names)) (free_columns r) v h))

  -- no name of the merged tree ends in "Label"
  pub merged-plain : all (λ w. not (is_label w)) (numbered (merge_project_patterns m)) ≡ true
  unfolding merge_project_patterns merged variables_in_pattern
  merged-plain = all_of (λ w. not (is_label w)) (numbered (merge_project_patterns m)) λ v h.
      let j = variables_in_pattern (join (renamed_pattern l) (renamed_pattern r)) in
      ap not (either (columns-plain v)
      (λ k. either (λ t. both-plain j.hidden j.in_scope hidden-plain in-scope-plain v t) (λ t. mem-nil v t) (mem-append-cases v (j.hidden ++ j.in_scope) [] k))
      (or_cases (mem v (merged_columns l r m.joins)) (mem v ((j.hidden ++ j.in_scope) ++ [])) (sym (numbered-mem (merge_project_patterns m) (merged-valid m a b) v) ∙ h)))
