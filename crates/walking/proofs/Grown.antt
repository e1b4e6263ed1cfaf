-- Where each variable takes at most k times its bytes under its new name, so does the tree; and its first word stays. Assumes nothing.
use Prim.Native.Nat.{ℕ, suc, ◌+◌, ◌-◌, ◌*◌, ◌≤◌}
use mathlib.Core.Path.{◌≡◌, refl, ap, subst}
use mathlib.Core.Bool.{Bool, true, false, cond}
use mathlib.Core.List.{List, [], ◌∷◌, map}
use native.Mathlib.Nat.{mul-add}
use native.Mathlib.Omega.{arith}
use lib.ListN.{length}
use Rattle.text.specs.Text.{Bytes, Line}
use Rattle.text.specs.Field.{decimal, clean, is_var, is_kind, fits, all_fit, variable}
use Rattle.text.proofs.Basics.{and_left, and_right}
use Rattle.algebra.specs.Tree.{Triple, Op, Pattern, bgp, path, join, union, minus, leftjoin, filter, graph, extend, values, orderby, project, distinct, reduced, slice, group, service}
use Rattle.algebra.specs.Tree.{Expression, term, bound, exists, apply, call, Condition, always, provided, Expressions, eend, econs, Orders, oend, ocons, Aggregates, aend, agg, aggall}
use Rattle.algebra.specs.Word.{arity}
use Rattle.algebra.specs.Layout.{put_triples, put_rows, put_arity, put_flag, put, put_e, put_c, put_es, put_os, put_as}
use Rattle.algebra.specs.Valid.{Fits, AllFit, Valid, ValidE, ValidC, ValidEs, ValidOs, ValidAs}
use Rattle.scoping.specs.Rename.{rename_in_term, rename_in_triple, rename_in_graph_pattern, rename_in_expression, rename_in_condition, rename_in_expressions, rename_in_orders, rename_aggregates}
use Rattle.walking.proofs.Parts.{count-renamed, ocount-renamed, acount-renamed}
use Rattle.walking.proofs.Sizes.{width, size}

-- as many under a function
map-length : {A B : Type 0} (f : A → B) (xs : List A) → length (map f xs) ≡ length xs
map-length f [] = refl
map-length f (x ∷ xs) = ap suc (map-length f xs)

module _ (k : ℕ) (least : (a : ℕ) → a ≤ k * a) where
  -- ---- fields and lines

  -- a field and those behind it
  beside : (x y : Bytes) (fs gs : List Bytes) → suc (length x) ≤ k * suc (length y) → width fs ≤ k * width gs → width (x ∷ fs) ≤ k * width (y ∷ gs)
  unfolding width
  beside x y fs gs h r = omega (arith, mul-add k (suc (length y)) (width gs))

  -- a line and those below it
  above : (w : Bytes) (fs gs : List Bytes) (ls ms : List Line) → width fs ≤ k * width gs → size ls ≤ k * size ms → size ((w ∷ fs) ∷ ls) ≤ k * size ((w ∷ gs) ∷ ms)
  unfolding size width
  above w fs gs ls ms h r = omega (arith, mul-add k (suc (length w) + width gs) (size ms), mul-add k (suc (length w)) (width gs), least (suc (length w)))

  -- the same, and what a word of three bytes, with the byte behind it, leaves
  first : (w : Bytes) (fs gs : List Bytes) (ls ms : List Line) → 3 ≤ length w → width fs ≤ k * width gs → size ls ≤ k * size ms → size ((w ∷ fs) ∷ ls) + k * 4 ≤ k * size ((w ∷ gs) ∷ ms) + 4
  unfolding size width
  first w fs gs ls ms n h r =
      let d = length w - 3 in
      let e : suc (length w) ≡ 4 + d = omega arith in
      omega (arith, mul-add k (suc (length w) + width gs) (size ms), mul-add k (suc (length w)) (width gs), ap (λ (x : ℕ). k * x) e, mul-add k 4 d, least d)

  weak : (a b : ℕ) → a + k * 4 ≤ k * b + 4 → a ≤ k * b
  weak a b h = omega (arith, least 4)

  -- no field
  none : width [] ≤ k * width []
  none = least (width [])

  same_number : (m n : ℕ) → m ≡ n → suc (length (decimal m)) ≤ k * suc (length (decimal n))
  same_number m n e = subst (λ (x : ℕ). suc (length (decimal m)) ≤ k * suc (length (decimal x))) e (least (suc (length (decimal m))))

  same-arity : (o : Op) (m n : ℕ) → m ≡ n → width (put_arity (arity o) m) ≤ k * width (put_arity (arity o) n)
  same-arity o m n e = subst (λ (x : ℕ). width (put_arity (arity o) m) ≤ k * width (put_arity (arity o) x)) e (least (width (put_arity (arity o) m)))

  pub grown-rows : (rs : List (List Bytes)) (t u : List Line) → size t ≤ k * size u → size (put_rows rs t) ≤ k * size (put_rows rs u)
  unfolding put_rows
  grown-rows [] t u h = h
  grown-rows (r ∷ rs) t u h = above _ _ _ _ _ (least (width r)) (grown-rows rs t u h)

  module _ (f : Bytes → Bytes) (grows : (v : Bytes) → is_var v ≡ true → suc (length (f v)) ≤ k * suc (length v)) where
    one-variable : (v : Bytes) → Fits variable v → suc (length (f v)) ≤ k * suc (length v)
    unfolding fits is_kind
    one-variable v h = grows v (and_right (clean v) (is_var v) h)

    one-term : (x : Bytes) → suc (length (rename_in_term f x)) ≤ k * suc (length x)
    unfolding rename_in_term
    one-term x = go (is_var x) refl
      where
        go : (t : Bool) → is_var x ≡ t → suc (length (cond t (f x) x)) ≤ k * suc (length x)
        go true e = grows x e
        go false e = least (suc (length x))

    same_flag : (c : Condition) → suc (length (put_flag (rename_in_condition f c))) ≤ k * suc (length (put_flag c))
    unfolding rename_in_condition
    same_flag always = least 2
    same_flag (provided e) = least 2

    pub grown-names : (cs : List Bytes) → AllFit variable cs → width (map f cs) ≤ k * width cs
    unfolding all_fit
    grown-names [] h = none
    grown-names (c ∷ cs) h = beside _ _ _ _ (one-variable c (and_left (fits variable c) (all_fit variable cs) h)) (grown-names cs (and_right (fits variable c) (all_fit variable cs) h))

    grown-triples : (ts : List Triple) (t u : List Line) → size t ≤ k * size u → size (put_triples (map (rename_in_triple f) ts) t) ≤ k * size (put_triples ts u)
    unfolding put_triples
    grown-triples [] t u h = h
    grown-triples (x ∷ xs) t u h = above _ _ _ _ _ (beside _ _ _ _ (one-term x.subj) (beside _ _ _ _ (one-term x.pred) (beside _ _ _ _ (one-term x.obj) none))) (grown-triples xs t u h)

    -- ---- trees, in front of lines that have grown no more

    mutual
      unfolding rename_in_graph_pattern put Valid

      pub grown : (p : Pattern) (t u : List Line) → Valid p → size t ≤ k * size u → size (put (rename_in_graph_pattern f p) t) + k * 4 ≤ k * size (put p u) + 4
      grown (bgp ts) t u v h = first _ _ _ _ _ (omega arith) (beside _ _ _ _ (same_number _ _ (map-length (rename_in_triple f) ts)) none) (grown-triples ts t u h)
      grown (path s x o) t u v h = first _ _ _ _ _ (omega arith) (beside _ _ _ _ (one-term s) (beside _ _ _ _ (least (suc (length x))) (beside _ _ _ _ (one-term o) none))) h
      grown (join p q) t u v h = first _ _ _ _ _ (omega arith) none (weak _ _ (grown p _ _ v.0 (weak _ _ (grown q t u v.1 h))))
      grown (union p q) t u v h = first _ _ _ _ _ (omega arith) none (weak _ _ (grown p _ _ v.0 (weak _ _ (grown q t u v.1 h))))
      grown (minus p q) t u v h = first _ _ _ _ _ (omega arith) none (weak _ _ (grown p _ _ v.0 (weak _ _ (grown q t u v.1 h))))
      grown (leftjoin p q c) t u v h = first _ _ _ _ _ (omega arith) (beside _ _ _ _ (same_flag c) none) (weak _ _ (grown p _ _ v.0 (weak _ _ (grown q _ _ v.1 (grown_c c t u v.2 h)))))
      grown (filter p e) t u v h = first _ _ _ _ _ (omega arith) none (weak _ _ (grown p _ _ v.0 (grown_e e t u v.1 h)))
      grown (graph n p) t u v h = first _ _ _ _ _ (omega arith) (beside _ _ _ _ (one-term n) none) (weak _ _ (grown p t u v.1 h))
      grown (extend x p e) t u v h = first _ _ _ _ _ (omega arith) (beside _ _ _ _ (one-variable x v.0) none) (weak _ _ (grown p _ _ v.1 (grown_e e t u v.2 h)))
      grown (values cs rs) t u v h =
          first _ _ _ _ _ (omega arith) (beside _ _ _ _ (same_number _ _ (map-length f cs)) (beside _ _ _ _ (least (suc (length (decimal (length rs))))) none))
          (above _ _ _ _ _ (grown-names cs v.2) (grown-rows rs t u h))
      grown (orderby p os) t u v h = first _ _ _ _ _ (omega arith) (beside _ _ _ _ (same_number _ _ (ocount-renamed f os)) none) (weak _ _ (grown p _ _ v.1 (grown_os os t u v.2 h)))
      grown (project cs p) t u v h = first _ _ _ _ _ (omega arith) (grown-names cs v.0) (weak _ _ (grown p t u v.1 h))
      grown (distinct p) t u v h = first _ _ _ _ _ (omega arith) none (weak _ _ (grown p t u v h))
      grown (reduced p) t u v h = first _ _ _ _ _ (omega arith) none (weak _ _ (grown p t u v h))
      grown (slice s l p) t u v h = first _ _ _ _ _ (omega arith) (least (width (s ∷ l ∷ []))) (weak _ _ (grown p t u v.2 h))
      grown (group ks p rs) t u v h =
          first _ _ _ _ _ (omega arith) (beside _ _ _ _ (same_number _ _ (map-length f ks)) (beside _ _ _ _ (same_number _ _ (acount-renamed f rs)) none))
          (above _ _ _ _ _ (grown-names ks v.2) (weak _ _ (grown p _ _ v.3 (grown_as rs t u v.4 h))))
      grown (service n s p) t u v h = first _ _ _ _ _ (omega arith) (least (width (n ∷ s ∷ []))) (weak _ _ (grown p t u v.2 h))

      grown_e : (e : Expression) (t u : List Line) → ValidE e → size t ≤ k * size u → size (put_e (rename_in_expression f e) t) ≤ k * size (put_e e u)
      grown_e (term x) t u v h = above _ _ _ _ _ (beside _ _ _ _ (one-term x) none) h
      grown_e (bound x) t u v h = above _ _ _ _ _ (beside _ _ _ _ (one-variable x v) none) h
      grown_e (exists p) t u v h = above _ _ _ _ _ none (weak _ _ (grown p t u v h))
      grown_e (apply o es) t u v h = above _ _ _ _ _ (same-arity o _ _ (count-renamed f es)) (grown_es es t u v.1 h)
      grown_e (call n es) t u v h = above _ _ _ _ _ (beside _ _ _ _ (least (suc (length n))) (beside _ _ _ _ (same_number _ _ (count-renamed f es)) none)) (grown_es es t u v.2 h)

      grown_c : (c : Condition) (t u : List Line) → ValidC c → size t ≤ k * size u → size (put_c (rename_in_condition f c) t) ≤ k * size (put_c c u)
      grown_c always t u v h = h
      grown_c (provided e) t u v h = grown_e e t u v h

      grown_es : (es : Expressions) (t u : List Line) → ValidEs es → size t ≤ k * size u → size (put_es (rename_in_expressions f es) t) ≤ k * size (put_es es u)
      grown_es eend t u v h = h
      grown_es (econs e es) t u v h = grown_e e _ _ v.0 (grown_es es t u v.1 h)

      grown_os : (os : Orders) (t u : List Line) → ValidOs os → size t ≤ k * size u → size (put_os (rename_in_orders f os) t) ≤ k * size (put_os os u)
      grown_os oend t u v h = h
      grown_os (ocons d e os) t u v h = above _ _ _ _ _ none (grown_e e _ _ v.0 (grown_os os t u v.1 h))

      grown_as : (rs : Aggregates) (t u : List Line) → ValidAs rs → size t ≤ k * size u → size (put_as (rename_aggregates f rs) t) ≤ k * size (put_as rs u)
      grown_as aend t u v h = h
      grown_as (agg x n d e rs) t u v h = above _ _ _ _ _ (beside _ _ _ _ (one-variable x v.0) (least (width (n ∷ d ∷ [])))) (grown_e e _ _ v.3 (grown_as rs t u v.4 h))
      grown_as (aggall x d rs) t u v h = above _ _ _ _ _ (beside _ _ _ _ (one-variable x v.0) (least (width (d ∷ [])))) (grown_as rs t u v.2 h)
