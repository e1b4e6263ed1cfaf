-- The call negate: nemo's negate_query, negate_project_pattern and modify_outermost_projection (queries.rs). Assumes nothing.
use Rattle.std.specs.Prelude.{cond, List, []}
use Rattle.text.specs.Text.{Bytes}
use Rattle.algebra.specs.Tree.{NOT, Pattern, bgp, path, join, union, minus, leftjoin, filter, graph, extend, values, orderby, project, distinct, reduced, slice, group, service, exists, apply, eend, econs}
use Rattle.algebra.specs.Query.{Query}
use Rattle.algebra.specs.Given.{read_given_query}
use Rattle.algebra.specs.Bounded.{layout_query}
use Rattle.answers.specs.Outcome.{Outcome, written, then}
use Rattle.merging.specs.Merge.{is_select_or_ask, over}

-- modify_outermost_projection: the way down goes through distinct, reduced, slice, orderby and group; the modified inner pattern may depend on the columns
unfoldable pub modify_outermost_projection : (List Bytes → Pattern → Pattern) → Pattern → Pattern
modify_outermost_projection f (project cs p) = project cs (f cs p)
modify_outermost_projection f (distinct p) = distinct (modify_outermost_projection f p)
modify_outermost_projection f (reduced p) = reduced (modify_outermost_projection f p)
modify_outermost_projection f (slice s l p) = slice s l (modify_outermost_projection f p)
modify_outermost_projection f (orderby p os) = orderby (modify_outermost_projection f p) os
modify_outermost_projection f (group ks p rs) = group ks (modify_outermost_projection f p) rs
modify_outermost_projection f (bgp ts) = bgp ts
modify_outermost_projection f (path s t o) = path s t o
modify_outermost_projection f (join p q) = join p q
modify_outermost_projection f (leftjoin p q c) = leftjoin p q c
modify_outermost_projection f (filter p e) = filter p e
modify_outermost_projection f (union p q) = union p q
modify_outermost_projection f (graph n p) = graph n p
modify_outermost_projection f (extend v p e) = extend v p e
modify_outermost_projection f (minus p q) = minus p q
modify_outermost_projection f (values cs rs) = values cs rs
modify_outermost_projection f (service n s p) = service n s p

-- negate_project_pattern: the pattern below is asked not to exist, over GraphPattern::default(), which is `bgp 0`
unfoldable pub negate_project_pattern : Pattern → Pattern
unfolding modify_outermost_projection
negate_project_pattern p = modify_outermost_projection (λ cs q. filter (bgp []) (apply NOT (econs (exists q) eend))) p

-- negate_query: a construct or describe is copied
unfoldable pub negate_query : Query → Query
unfolding is_select_or_ask negate_project_pattern
negate_query q = cond (is_select_or_ask q.kind) (over q (negate_project_pattern q.tree)) q

-- docs/SPECIFICATION.md, "Operation by operation", negate
unfoldable pub negate_outcome : Bytes → Outcome
unfolding read_given_query negate_query layout_query
negate_outcome query = then (read_given_query query) λ q. written (layout_query (negate_query q))
