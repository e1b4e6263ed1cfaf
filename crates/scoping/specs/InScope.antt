-- The variables in scope by SPARQL 1.1, section 18.2.1, written from knowledge of the standard's table, whose page was not at hand; and a pattern whose services are named by IRIs. Assumes nothing.
use Rattle.std.specs.Prelude.{cond, List, [], ◌∷◌, ◌++◌}
use Rattle.text.specs.Text.{Bytes}
use Rattle.text.specs.Field.{is_var}
use Rattle.algebra.specs.Tree.{Pattern, bgp, path, join, union, minus, leftjoin, filter, graph, extend, values, orderby, project, distinct, reduced, slice, group, service}
use Rattle.scoping.specs.Sets.{variables_of, triple_variables, aggregate_variables}

-- section 18.2.1: v is in scope in a pattern
unfoldable pub in_scope : Pattern → List Bytes
unfolding variables_of triple_variables aggregate_variables
in_scope (bgp ts) = triple_variables ts  -- it occurs in the pattern
in_scope (path s t o) = variables_of (s ∷ o ∷ [])  -- it occurs in the path
in_scope (join p q) = in_scope p ++ in_scope q  -- it is in scope in P1 or in P2
in_scope (union p q) = in_scope p ++ in_scope q
in_scope (leftjoin p q c) = in_scope p ++ in_scope q  -- OPTIONAL
in_scope (graph n p) = variables_of (n ∷ []) ++ in_scope p  -- it is the term or in scope in P
in_scope (service n s p) = variables_of (n ∷ []) ++ in_scope p
in_scope (extend v p e) = v ∷ in_scope p  -- BIND (expr AS v), SELECT (expr AS v)
in_scope (project cs p) = cs  -- SELECT
in_scope (group ks p rs) = ks ++ aggregate_variables rs  -- GROUP BY, and the aggregates' own
in_scope (values cs rs) = cs  -- VALUES
in_scope (minus p q) = in_scope p  -- MINUS and FILTER do not change which variables are in scope
in_scope (filter p e) = in_scope p
in_scope (orderby p os) = in_scope p
in_scope (distinct p) = in_scope p
in_scope (reduced p) = in_scope p
in_scope (slice s l p) = in_scope p

-- p with each service's name that is a variable replaced by the IRI i: nemo's set in scope is the standard's of this. Expressions put nothing in scope and stay
unfoldable pub services_named : Bytes → Pattern → Pattern
unfolding is_var
services_named i (service n s p) = service (cond (is_var n) i n) s (services_named i p)
services_named i (bgp ts) = bgp ts
services_named i (path s t o) = path s t o
services_named i (values cs rs) = values cs rs
services_named i (join p q) = join (services_named i p) (services_named i q)
services_named i (leftjoin p q c) = leftjoin (services_named i p) (services_named i q) c
services_named i (union p q) = union (services_named i p) (services_named i q)
services_named i (minus p q) = minus (services_named i p) (services_named i q)
services_named i (graph n p) = graph n (services_named i p)
services_named i (extend v p e) = extend v (services_named i p) e
services_named i (filter p e) = filter (services_named i p) e
services_named i (project cs p) = project cs (services_named i p)
services_named i (group ks p rs) = group ks (services_named i p) rs
services_named i (orderby p os) = orderby (services_named i p) os
services_named i (distinct p) = distinct (services_named i p)
services_named i (reduced p) = reduced (services_named i p)
services_named i (slice s l p) = slice s l (services_named i p)
