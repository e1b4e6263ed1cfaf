-- The outermost projection of a tree: where nemo's modify_outermost_projection (queries.rs) finds it. Assumes nothing.
use Rattle.std.proofs.Math.Option.{Option, none, some}
use Rattle.algebra.specs.Tree.{Pattern, bgp, path, join, union, minus, leftjoin, filter, graph, extend, values, orderby, project, distinct, reduced, slice, group, service}
use Rattle.merging.specs.Request.{Projection}

-- the way down goes through distinct, reduced, slice, orderby and group
unfoldable pub outermost_projection : Pattern → Option Projection
outermost_projection (project cs p) = some (record { columns = cs; inner = p })
outermost_projection (distinct p) = outermost_projection p
outermost_projection (reduced p) = outermost_projection p
outermost_projection (slice s l p) = outermost_projection p
outermost_projection (orderby p os) = outermost_projection p
outermost_projection (group ks p rs) = outermost_projection p
outermost_projection (bgp ts) = none
outermost_projection (path s t o) = none
outermost_projection (join p q) = none
outermost_projection (leftjoin p q c) = none
outermost_projection (filter p e) = none
outermost_projection (union p q) = none
outermost_projection (graph n p) = none
outermost_projection (extend v p e) = none
outermost_projection (minus p q) = none
outermost_projection (values cs rs) = none
outermost_projection (service n s p) = none
