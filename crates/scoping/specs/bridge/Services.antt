-- The names of all services of a tree, in expressions too. Assumes nothing.
use Rattle.std.specs.Prelude.{List, [], ◌∷◌, ◌++◌}
use Rattle.text.specs.Text.{Bytes}
use Rattle.algebra.specs.Tree.{Pattern, bgp, path, join, union, minus, leftjoin, filter, graph, extend, values, orderby, project, distinct, reduced, slice, group, service}
use Rattle.algebra.specs.Tree.{Expression, term, bound, exists, apply, call, Condition, always, provided, Expressions, eend, econs, Orders, oend, ocons, Aggregates, aend, agg, aggall}

-- a service's name, variable or not: docs/SPECIFICATION.md, "Renaming"
unfoldable mutual
  pub services : Pattern → List Bytes
  services (bgp ts) = []
  services (path s t o) = []
  services (join p q) = services p ++ services q
  services (union p q) = services p ++ services q
  services (minus p q) = services p ++ services q
  services (leftjoin p q c) = services p ++ (services q ++ services_c c)
  services (filter p e) = services p ++ services_e e
  services (graph n p) = services p
  services (extend v p e) = services p ++ services_e e
  services (values cs rs) = []
  services (orderby p os) = services p ++ services_os os
  services (project cs p) = services p
  services (distinct p) = services p
  services (reduced p) = services p
  services (slice s l p) = services p
  services (group ks p rs) = services p ++ services_as rs
  services (service n s p) = n ∷ services p

  pub services_e : Expression → List Bytes
  services_e (term x) = []
  services_e (bound v) = []
  services_e (exists p) = services p
  services_e (apply o es) = services_es es
  services_e (call n es) = services_es es

  pub services_c : Condition → List Bytes
  services_c always = []
  services_c (provided e) = services_e e

  pub services_es : Expressions → List Bytes
  services_es eend = []
  services_es (econs e es) = services_e e ++ services_es es

  pub services_os : Orders → List Bytes
  services_os oend = []
  services_os (ocons d e os) = services_e e ++ services_os os

  pub services_as : Aggregates → List Bytes
  services_as aend = []
  services_as (agg v n d e rs) = services_e e ++ services_as rs
  services_as (aggall v d rs) = services_as rs
