-- The variables that are in scope by section 18.2.1 as names of services, which nemo leaves out. Assumes nothing.
use Rattle.std.specs.Prelude.{List, [], ◌∷◌, ◌++◌}
use Rattle.text.specs.Text.{Bytes}
use Rattle.algebra.specs.Tree.{Pattern, bgp, path, join, union, minus, leftjoin, filter, graph, extend, values, orderby, project, distinct, reduced, slice, group, service}
use Rattle.scoping.specs.Sets.{variables_of}

-- docs/SPECIFICATION.md, "Scope"
unfoldable pub service_names : Pattern → List Bytes
unfolding variables_of
service_names (bgp ts) = []
service_names (path s t o) = []
service_names (join p q) = service_names p ++ service_names q
service_names (union p q) = service_names p ++ service_names q
service_names (leftjoin p q c) = service_names p ++ service_names q
service_names (graph n p) = service_names p
service_names (service n s p) = variables_of (n ∷ []) ++ service_names p
service_names (extend v p e) = service_names p
service_names (project cs p) = []
service_names (group ks p rs) = []
service_names (values cs rs) = []
service_names (minus p q) = service_names p
service_names (filter p e) = service_names p
service_names (orderby p os) = service_names p
service_names (distinct p) = service_names p
service_names (reduced p) = service_names p
service_names (slice s l p) = service_names p
