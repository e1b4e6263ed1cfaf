-- Renaming keeps a tree's lines and its depth. Assumes nothing.
use Prim.Native.Nat.{ℕ, suc, max}
use mathlib.Core.Path.{◌≡◌, refl, ap, ap₂}
use mathlib.Core.List.{List, [], ◌∷◌, map}
use lib.ListN.{length}
use Rattle.text.specs.Text.{Bytes, Line}
use Rattle.algebra.specs.Tree.{Triple, Pattern, bgp, path, join, union, minus, leftjoin, filter, graph, extend, values, orderby, project, distinct, reduced, slice, group, service}
use Rattle.algebra.specs.Tree.{Expression, term, bound, exists, apply, call, Condition, always, provided, Expressions, eend, econs, Orders, oend, ocons, Aggregates, aend, agg, aggall}
use Rattle.algebra.specs.Layout.{put_triples, put_rows, put, put_e, put_c, put_es, put_os, put_as}
use Rattle.algebra.specs.Depth.{depth, depth_e, depth_c, depth_es, depth_os, depth_as}
use Rattle.scoping.specs.Rename.{rename_in_triple, rename_in_graph_pattern, rename_in_expression, rename_in_condition, rename_in_expressions, rename_in_orders, rename_aggregates}

-- as many lines
abbrev Long : List Line → List Line → Type 0
Long a b = length a ≡ length b

module _ (f : Bytes → Bytes) where
  triples-long : (ts : List Triple) (a b : List Line) → Long a b → Long (put_triples (map (rename_in_triple f) ts) a) (put_triples ts b)
  unfolding put_triples
  triples-long [] a b h = h
  triples-long (t ∷ ts) a b h = ap suc (triples-long ts a b h)

  rows_long : (rs : List (List Bytes)) (a b : List Line) → Long a b → Long (put_rows rs a) (put_rows rs b)
  unfolding put_rows
  rows_long [] a b h = h
  rows_long (r ∷ rs) a b h = ap suc (rows_long rs a b h)

  mutual
    unfolding put rename_in_graph_pattern

    pub renamed-long : (p : Pattern) (a b : List Line) → Long a b → Long (put (rename_in_graph_pattern f p) a) (put p b)
    renamed-long (bgp ts) a b h = ap suc (triples-long ts a b h)
    renamed-long (path s x o) a b h = ap suc h
    renamed-long (join p q) a b h = ap suc (renamed-long p _ _ (renamed-long q a b h))
    renamed-long (union p q) a b h = ap suc (renamed-long p _ _ (renamed-long q a b h))
    renamed-long (minus p q) a b h = ap suc (renamed-long p _ _ (renamed-long q a b h))
    renamed-long (leftjoin p q c) a b h = ap suc (renamed-long p _ _ (renamed-long q _ _ (long_c c a b h)))
    renamed-long (filter p e) a b h = ap suc (renamed-long p _ _ (long_e e a b h))
    renamed-long (graph n p) a b h = ap suc (renamed-long p a b h)
    renamed-long (extend v p e) a b h = ap suc (renamed-long p _ _ (long_e e a b h))
    renamed-long (values cs rs) a b h = ap (λ (n : ℕ). suc (suc n)) (rows_long rs a b h)
    renamed-long (orderby p os) a b h = ap suc (renamed-long p _ _ (long_os os a b h))
    renamed-long (project cs p) a b h = ap suc (renamed-long p a b h)
    renamed-long (distinct p) a b h = ap suc (renamed-long p a b h)
    renamed-long (reduced p) a b h = ap suc (renamed-long p a b h)
    renamed-long (slice s l p) a b h = ap suc (renamed-long p a b h)
    renamed-long (group ks p rs) a b h = ap (λ (n : ℕ). suc (suc n)) (renamed-long p _ _ (long_as rs a b h))
    renamed-long (service n s p) a b h = ap suc (renamed-long p a b h)

    long_e : (e : Expression) (a b : List Line) → Long a b → Long (put_e (rename_in_expression f e) a) (put_e e b)
    long_e (term x) a b h = ap suc h
    long_e (bound v) a b h = ap suc h
    long_e (exists p) a b h = ap suc (renamed-long p a b h)
    long_e (apply o es) a b h = ap suc (long_es es a b h)
    long_e (call n es) a b h = ap suc (long_es es a b h)

    long_c : (c : Condition) (a b : List Line) → Long a b → Long (put_c (rename_in_condition f c) a) (put_c c b)
    long_c always a b h = h
    long_c (provided e) a b h = long_e e a b h

    long_es : (es : Expressions) (a b : List Line) → Long a b → Long (put_es (rename_in_expressions f es) a) (put_es es b)
    long_es eend a b h = h
    long_es (econs e es) a b h = long_e e _ _ (long_es es a b h)

    long_os : (os : Orders) (a b : List Line) → Long a b → Long (put_os (rename_in_orders f os) a) (put_os os b)
    long_os oend a b h = h
    long_os (ocons d e os) a b h = ap suc (long_e e _ _ (long_os os a b h))

    long_as : (rs : Aggregates) (a b : List Line) → Long a b → Long (put_as (rename_aggregates f rs) a) (put_as rs b)
    long_as aend a b h = h
    long_as (agg v n d e rs) a b h = ap suc (long_e e _ _ (long_as rs a b h))
    long_as (aggall v d rs) a b h = ap suc (long_as rs a b h)

  mutual
    unfolding depth rename_in_graph_pattern

    pub renamed-depth : (p : Pattern) → depth (rename_in_graph_pattern f p) ≡ depth p
    renamed-depth (bgp ts) = refl
    renamed-depth (path s x o) = refl
    renamed-depth (join p q) = ap₂ (λ (a b : ℕ). suc (max a b)) (renamed-depth p) (renamed-depth q)
    renamed-depth (union p q) = ap₂ (λ (a b : ℕ). suc (max a b)) (renamed-depth p) (renamed-depth q)
    renamed-depth (minus p q) = ap₂ (λ (a b : ℕ). suc (max a b)) (renamed-depth p) (renamed-depth q)
    renamed-depth (leftjoin p q c) = λ i. suc (max (renamed-depth p i) (max (renamed-depth q i) (deep_c c i)))
    renamed-depth (filter p e) = ap₂ (λ (a b : ℕ). suc (max a b)) (renamed-depth p) (deep_e e)
    renamed-depth (graph n p) = ap suc (renamed-depth p)
    renamed-depth (extend v p e) = ap₂ (λ (a b : ℕ). suc (max a b)) (renamed-depth p) (deep_e e)
    renamed-depth (values cs rs) = refl
    renamed-depth (orderby p os) = ap₂ (λ (a b : ℕ). suc (max a b)) (renamed-depth p) (deep_os os)
    renamed-depth (project cs p) = ap suc (renamed-depth p)
    renamed-depth (distinct p) = ap suc (renamed-depth p)
    renamed-depth (reduced p) = ap suc (renamed-depth p)
    renamed-depth (slice s l p) = ap suc (renamed-depth p)
    renamed-depth (group ks p rs) = ap₂ (λ (a b : ℕ). suc (max a b)) (renamed-depth p) (deep_as rs)
    renamed-depth (service n s p) = ap suc (renamed-depth p)

    deep_e : (e : Expression) → depth_e (rename_in_expression f e) ≡ depth_e e
    deep_e (term x) = refl
    deep_e (bound v) = refl
    deep_e (exists p) = ap suc (renamed-depth p)
    deep_e (apply o es) = ap suc (deep_es es)
    deep_e (call n es) = ap suc (deep_es es)

    deep_c : (c : Condition) → depth_c (rename_in_condition f c) ≡ depth_c c
    deep_c always = refl
    deep_c (provided e) = deep_e e

    deep_es : (es : Expressions) → depth_es (rename_in_expressions f es) ≡ depth_es es
    deep_es eend = refl
    deep_es (econs e es) = ap₂ max (deep_e e) (deep_es es)

    deep_os : (os : Orders) → depth_os (rename_in_orders f os) ≡ depth_os os
    deep_os oend = refl
    deep_os (ocons d e os) = ap₂ max (deep_e e) (deep_os os)

    deep_as : (rs : Aggregates) → depth_as (rename_aggregates f rs) ≡ depth_as rs
    deep_as aend = refl
    deep_as (agg v n d e rs) = ap₂ max (deep_e e) (deep_as rs)
    deep_as (aggall v d rs) = deep_as rs
