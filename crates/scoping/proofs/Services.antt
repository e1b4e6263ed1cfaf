-- A service's name stays under renaming, variable or not, wherever the service stands. Assumes nothing.
use mathlib.Core.Path.{◌≡◌, refl, ap, ap₂}
use mathlib.Core.List.{List, [], ◌∷◌, ◌++◌}
use Rattle.text.specs.Text.{Bytes}
use Rattle.algebra.specs.Tree.{Pattern, bgp, path, join, union, minus, leftjoin, filter, graph, extend, values, orderby, project, distinct, reduced, slice, group, service}
use Rattle.algebra.specs.Tree.{Expression, term, bound, exists, apply, call, Condition, always, provided, Expressions, eend, econs, Orders, oend, ocons, Aggregates, aend, agg, aggall}
use Rattle.scoping.specs.bridge.Services.{services, services_e, services_c, services_es, services_os, services_as}
use Rattle.scoping.specs.Rename.{rename_in_graph_pattern, rename_in_expression, rename_in_condition, rename_in_expressions, rename_in_orders, rename_aggregates}

mutual
  unfolding services rename_in_graph_pattern

  stay : (f : Bytes → Bytes) (p : Pattern) → services (rename_in_graph_pattern f p) ≡ services p
  stay f (bgp ts) = refl
  stay f (path s t o) = refl
  stay f (join p q) = ap₂ ◌++◌ (stay f p) (stay f q)
  stay f (union p q) = ap₂ ◌++◌ (stay f p) (stay f q)
  stay f (minus p q) = ap₂ ◌++◌ (stay f p) (stay f q)
  stay f (leftjoin p q c) = ap₂ ◌++◌ (stay f p) (ap₂ ◌++◌ (stay f q) (stay_c f c))
  stay f (filter p e) = ap₂ ◌++◌ (stay f p) (stay_e f e)
  stay f (graph n p) = stay f p
  stay f (extend v p e) = ap₂ ◌++◌ (stay f p) (stay_e f e)
  stay f (values cs rs) = refl
  stay f (orderby p os) = ap₂ ◌++◌ (stay f p) (stay_os f os)
  stay f (project cs p) = stay f p
  stay f (distinct p) = stay f p
  stay f (reduced p) = stay f p
  stay f (slice s l p) = stay f p
  stay f (group ks p rs) = ap₂ ◌++◌ (stay f p) (stay_as f rs)
  stay f (service n s p) = ap (λ (l : List Bytes). n ∷ l) (stay f p)

  stay_e : (f : Bytes → Bytes) (e : Expression) → services_e (rename_in_expression f e) ≡ services_e e
  stay_e f (term x) = refl
  stay_e f (bound v) = refl
  stay_e f (exists p) = stay f p
  stay_e f (apply o es) = stay_es f es
  stay_e f (call n es) = stay_es f es

  stay_c : (f : Bytes → Bytes) (c : Condition) → services_c (rename_in_condition f c) ≡ services_c c
  stay_c f always = refl
  stay_c f (provided e) = stay_e f e

  stay_es : (f : Bytes → Bytes) (es : Expressions) → services_es (rename_in_expressions f es) ≡ services_es es
  stay_es f eend = refl
  stay_es f (econs e es) = ap₂ ◌++◌ (stay_e f e) (stay_es f es)

  stay_os : (f : Bytes → Bytes) (os : Orders) → services_os (rename_in_orders f os) ≡ services_os os
  stay_os f oend = refl
  stay_os f (ocons d e os) = ap₂ ◌++◌ (stay_e f e) (stay_os f os)

  stay_as : (f : Bytes → Bytes) (rs : Aggregates) → services_as (rename_aggregates f rs) ≡ services_as rs
  stay_as f aend = refl
  stay_as f (agg v n d e rs) = ap₂ ◌++◌ (stay_e f e) (stay_as f rs)
  stay_as f (aggall v d rs) = stay_as f rs

pub services-stay : (f : Bytes → Bytes) (p : Pattern) → services (rename_in_graph_pattern f p) ≡ services p
services-stay = stay
