-- Renaming keeps a tree's depth. Assumes nothing.
use Prim.Native.Nat.{ℕ, suc, max}
use mathlib.Core.Path.{◌≡◌, refl, ap, ap₂}
use Rattle.text.specs.Text.{Bytes}
use Rattle.algebra.specs.Tree.{Pattern, bgp, path, join, union, minus, leftjoin, filter, graph, extend, values, orderby, project, distinct, reduced, slice, group, service}
use Rattle.algebra.specs.Tree.{Expression, term, bound, exists, apply, call, Condition, always, provided, Expressions, eend, econs, Orders, oend, ocons, Aggregates, aend, agg, aggall}
use Rattle.algebra.specs.Depth.{depth, depth_e, depth_c, depth_es, depth_os, depth_as}
use Rattle.scoping.specs.Rename.{rename_in_graph_pattern, rename_in_expression, rename_in_condition, rename_in_expressions, rename_in_orders, rename_aggregates}

module _ (f : Bytes → Bytes) where
  mutual
    unfolding depth rename_in_graph_pattern

    pub renamed-depth : (p : Pattern) → depth (rename_in_graph_pattern f p) ≡ depth p
    renamed-depth (bgp ts) = refl
    renamed-depth (path s x o) = refl
    renamed-depth (join p q) = ap₂ (λ (a b : ℕ). suc (max a b)) (renamed-depth p) (renamed-depth q)
    renamed-depth (union p q) = ap₂ (λ (a b : ℕ). suc (max a b)) (renamed-depth p) (renamed-depth q)
    renamed-depth (minus p q) = ap₂ (λ (a b : ℕ). suc (max a b)) (renamed-depth p) (renamed-depth q)
    renamed-depth (leftjoin p q c) = λ i. suc (max (renamed-depth p i) (max (renamed-depth q i) (deep_c c i)))
    renamed-depth (filter p e) = ap₂ (λ (a b : ℕ). suc (max a b)) (renamed-depth p) (deep_e e)
    renamed-depth (graph n p) = ap suc (renamed-depth p)
    renamed-depth (extend v p e) = ap₂ (λ (a b : ℕ). suc (max a b)) (renamed-depth p) (deep_e e)
    renamed-depth (values cs rs) = refl
    renamed-depth (orderby p os) = ap₂ (λ (a b : ℕ). suc (max a b)) (renamed-depth p) (deep_os os)
    renamed-depth (project cs p) = ap suc (renamed-depth p)
    renamed-depth (distinct p) = ap suc (renamed-depth p)
    renamed-depth (reduced p) = ap suc (renamed-depth p)
    renamed-depth (slice s l p) = ap suc (renamed-depth p)
    renamed-depth (group ks p rs) = ap₂ (λ (a b : ℕ). suc (max a b)) (renamed-depth p) (deep_as rs)
    renamed-depth (service n s p) = ap suc (renamed-depth p)

    deep_e : (e : Expression) → depth_e (rename_in_expression f e) ≡ depth_e e
    deep_e (term x) = refl
    deep_e (bound v) = refl
    deep_e (exists p) = ap suc (renamed-depth p)
    deep_e (apply o es) = ap suc (deep_es es)
    deep_e (call n es) = ap suc (deep_es es)

    deep_c : (c : Condition) → depth_c (rename_in_condition f c) ≡ depth_c c
    deep_c always = refl
    deep_c (provided e) = deep_e e

    deep_es : (es : Expressions) → depth_es (rename_in_expressions f es) ≡ depth_es es
    deep_es eend = refl
    deep_es (econs e es) = ap₂ max (deep_e e) (deep_es es)

    deep_os : (os : Orders) → depth_os (rename_in_orders f os) ≡ depth_os os
    deep_os oend = refl
    deep_os (ocons d e os) = ap₂ max (deep_e e) (deep_os os)

    deep_as : (rs : Aggregates) → depth_as (rename_aggregates f rs) ≡ depth_as rs
    deep_as aend = refl
    deep_as (agg v n d e rs) = ap₂ max (deep_e e) (deep_as rs)
    deep_as (aggall v d rs) = deep_as rs
