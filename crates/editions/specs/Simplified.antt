-- Joins with the empty pattern are dropped, from the leaves up: SPARQL 1.1, section 18.2.2.8. Assumes nothing.
use Rattle.std.specs.Prelude.{List, [], ◌∷◌, Bool, true, false, cond}
use Rattle.algebra.specs.Tree.{Triple, Pattern, bgp, path, join, union, minus, leftjoin, filter, graph, extend, values, orderby, project, distinct, reduced, slice, group, service, Expression, term, bound, exists, apply, call, Condition, always, provided, Expressions, eend, econs, Orders, oend, ocons, Aggregates, aend, agg, aggall}

abbrev none_in : List Triple → Bool
none_in [] = true
none_in (t ∷ ts) = false

-- it is the empty pattern
abbrev pub is_z : Pattern → Bool
is_z (bgp ts) = none_in ts
is_z (path s t o) = false
is_z (join p q) = false
is_z (union p q) = false
is_z (minus p q) = false
is_z (leftjoin p q c) = false
is_z (filter p e) = false
is_z (graph n p) = false
is_z (extend v p e) = false
is_z (values cs rs) = false
is_z (orderby p os) = false
is_z (project cs p) = false
is_z (distinct p) = false
is_z (reduced p) = false
is_z (slice a n p) = false
is_z (group ks p rs) = false
is_z (service n f p) = false

-- join(Z, A) is A, join(A, Z) is A
unfoldable pub joined : Pattern → Pattern → Pattern
joined p q = cond (is_z p) q (cond (is_z q) p (join p q))

unfoldable mutual
  pub simplified : Pattern → Pattern
  simplified (bgp ts) = bgp ts
  simplified (path s t o) = path s t o
  simplified (join p q) = joined (simplified p) (simplified q)
  simplified (union p q) = union (simplified p) (simplified q)
  simplified (minus p q) = minus (simplified p) (simplified q)
  simplified (leftjoin p q c) = leftjoin (simplified p) (simplified q) (simplified_c c)
  simplified (filter p e) = filter (simplified p) (simplified_e e)
  simplified (graph n p) = graph n (simplified p)
  simplified (extend v p e) = extend v (simplified p) (simplified_e e)
  simplified (values cs rs) = values cs rs
  simplified (orderby p os) = orderby (simplified p) (simplified_os os)
  simplified (project cs p) = project cs (simplified p)
  simplified (distinct p) = distinct (simplified p)
  simplified (reduced p) = reduced (simplified p)
  simplified (slice a n p) = slice a n (simplified p)
  simplified (group ks p rs) = group ks (simplified p) (simplified_as rs)
  simplified (service n f p) = service n f (simplified p)

  pub simplified_e : Expression → Expression
  simplified_e (term x) = term x
  simplified_e (bound v) = bound v
  simplified_e (exists p) = exists (simplified p)
  simplified_e (apply o es) = apply o (simplified_es es)
  simplified_e (call n es) = call n (simplified_es es)

  pub simplified_c : Condition → Condition
  simplified_c always = always
  simplified_c (provided e) = provided (simplified_e e)

  pub simplified_es : Expressions → Expressions
  simplified_es eend = eend
  simplified_es (econs e es) = econs (simplified_e e) (simplified_es es)

  pub simplified_os : Orders → Orders
  simplified_os oend = oend
  simplified_os (ocons d e os) = ocons d (simplified_e e) (simplified_os os)

  pub simplified_as : Aggregates → Aggregates
  simplified_as aend = aend
  simplified_as (agg v n f e rs) = agg v n f (simplified_e e) (simplified_as rs)
  simplified_as (aggall v f rs) = aggall v f (simplified_as rs)
