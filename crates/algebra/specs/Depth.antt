-- How deep a tree is: the root is 1, and only patterns, expressions and filter parts add depth. docs/SPECIFICATION.md, "Bounds". Assumes nothing.
use Rattle.std.specs.Prelude.{ℕ, suc, max}
use Rattle.algebra.specs.Tree.{Pattern, bgp, path, join, union, minus, leftjoin, filter, graph, extend, values, orderby, project, distinct, reduced, slice, group, service, Expression, term, bound, exists, apply, call, Condition, always, provided, Expressions, eend, econs, Orders, oend, ocons, Aggregates, aend, agg, aggall}
use Rattle.algebra.specs.Query.{Filter, leaf, ref, function, Filters, fend, fcons}

unfoldable mutual
  pub depth : Pattern → ℕ
  depth (bgp ts) = 1
  depth (path s x o) = 1
  depth (join p q) = suc (max (depth p) (depth q))
  depth (union p q) = suc (max (depth p) (depth q))
  depth (minus p q) = suc (max (depth p) (depth q))
  depth (leftjoin p q c) = suc (max (depth p) (max (depth q) (depth_c c)))
  depth (filter p e) = suc (max (depth p) (depth_e e))
  depth (graph n p) = suc (depth p)
  depth (extend v p e) = suc (max (depth p) (depth_e e))
  depth (values cs rs) = 1
  depth (orderby p os) = suc (max (depth p) (depth_os os))
  depth (project cs p) = suc (depth p)
  depth (distinct p) = suc (depth p)
  depth (reduced p) = suc (depth p)
  depth (slice a n p) = suc (depth p)
  depth (group ks p rs) = suc (max (depth p) (depth_as rs))
  depth (service n f p) = suc (depth p)

  pub depth_e : Expression → ℕ
  depth_e (term x) = 1
  depth_e (bound v) = 1
  depth_e (exists p) = suc (depth p)
  depth_e (apply o es) = suc (depth_es es)
  depth_e (call n es) = suc (depth_es es)

  pub depth_c : Condition → ℕ
  depth_c always = 0
  depth_c (provided e) = depth_e e

  pub depth_es : Expressions → ℕ
  depth_es eend = 0
  depth_es (econs e es) = max (depth_e e) (depth_es es)

  pub depth_os : Orders → ℕ
  depth_os oend = 0
  depth_os (ocons d e os) = max (depth_e e) (depth_os os)

  pub depth_as : Aggregates → ℕ
  depth_as aend = 0
  depth_as (agg v n f e rs) = max (depth_e e) (depth_as rs)
  depth_as (aggall v f rs) = depth_as rs

unfoldable mutual
  pub depth_filter : Filter → ℕ
  depth_filter (leaf v) = 1
  depth_filter (ref k) = 1
  depth_filter (function w n fs) = suc (depth_parts fs)

  pub depth_parts : Filters → ℕ
  depth_parts fend = 0
  depth_parts (fcons f fs) = max (depth_filter f) (depth_parts fs)
