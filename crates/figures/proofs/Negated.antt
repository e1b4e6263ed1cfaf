-- Lines, depth and columns of a negated tree, from those of the tree. Assumes nothing.
use Prim.Native.Nat.{ℕ, zero, suc, ◌+◌, ◌≤◌, max}
use mathlib.Core.Path.{◌≡◌, refl}
use mathlib.Core.List.{List, []}
use native.Mathlib.Omega.{arith}
use lib.ListN.{length}
use Rattle.text.specs.Text.{Bytes, Line}
use Rattle.algebra.specs.Tree.{NOT, Pattern, bgp, path, join, union, minus, leftjoin, filter, graph, extend, values, orderby, project, distinct, reduced, slice, group, service, exists, apply, eend, econs}
use Rattle.algebra.specs.Layout.{put, put_triples, put_os, put_as}
use Rattle.algebra.specs.Depth.{depth, depth_os, depth_as}
use Rattle.merging.specs.Request.{as_project}
use Rattle.merging.specs.Negate.{modify_outermost_projection, negate_project_pattern}
use Rattle.figures.specs.Figures.{column_count}
use Rattle.figures.specs.bridge.Parts.{line_count, deeper, reach, put_in, lowered}

abbrev unless : List Bytes → Pattern → Pattern
unless cs q = filter (bgp []) (apply NOT (econs (exists q) eend))

put-in-deeper : (n : ℕ) → put_in (deeper n) ≡ put_in n
put-in-deeper zero = refl
put-in-deeper (suc n) = refl

lines_of : (p : Pattern) (t : List Line) → length (put (modify_outermost_projection unless p) t) ≡ length (put p t) + put_in (reach p)
unfolding modify_outermost_projection reach put put_triples
lines_of (project cs p) t = omega arith
lines_of (distinct p) t = omega (arith, lines_of p t, put-in-deeper (reach p))
lines_of (reduced p) t = omega (arith, lines_of p t, put-in-deeper (reach p))
lines_of (slice s l p) t = omega (arith, lines_of p t, put-in-deeper (reach p))
lines_of (orderby p os) t = omega (arith, lines_of p (put_os os t), put-in-deeper (reach p))
lines_of (group ks p rs) t = omega (arith, lines_of p (put_as rs t), put-in-deeper (reach p))
lines_of (bgp ts) t = omega arith
lines_of (path s x o) t = omega arith
lines_of (join p q) t = omega arith
lines_of (leftjoin p q c) t = omega arith
lines_of (filter p e) t = omega arith
lines_of (union p q) t = omega arith
lines_of (graph n p) t = omega arith
lines_of (extend v p e) t = omega arith
lines_of (minus p q) t = omega arith
lines_of (values cs rs) t = omega arith
lines_of (service n s p) t = omega arith

-- a level above it, and the depth d of what stands beside it
lower : (n d e : ℕ) → n ≤ d → suc (max (max d (lowered n)) e) ≡ max (suc (max d e)) (lowered (deeper n))
lower zero d e h = omega arith
lower (suc n) d e h = omega arith

under : (n d : ℕ) → n ≤ d → deeper n ≤ suc d
under zero d h = omega arith
under (suc n) d h = omega arith

reach-within : (p : Pattern) → reach p ≤ depth p
unfolding reach depth
reach-within (project cs p) = omega arith
reach-within (distinct p) = under (reach p) (depth p) (reach-within p)
reach-within (reduced p) = under (reach p) (depth p) (reach-within p)
reach-within (slice s l p) = under (reach p) (depth p) (reach-within p)
reach-within (orderby p os) = omega (arith, under (reach p) (depth p) (reach-within p))
reach-within (group ks p rs) = omega (arith, under (reach p) (depth p) (reach-within p))
reach-within (bgp ts) = omega arith
reach-within (path s x o) = omega arith
reach-within (join p q) = omega arith
reach-within (leftjoin p q c) = omega arith
reach-within (filter p e) = omega arith
reach-within (union p q) = omega arith
reach-within (graph n p) = omega arith
reach-within (extend v p e) = omega arith
reach-within (minus p q) = omega arith
reach-within (values cs rs) = omega arith
reach-within (service n s p) = omega arith

depth-of : (p : Pattern) → depth (modify_outermost_projection unless p) ≡ max (depth p) (lowered (reach p))
unfolding modify_outermost_projection reach depth
depth-of (project cs p) = omega arith
depth-of (distinct p) = omega (arith, depth-of p, lower (reach p) (depth p) 0 (reach-within p))
depth-of (reduced p) = omega (arith, depth-of p, lower (reach p) (depth p) 0 (reach-within p))
depth-of (slice s l p) = omega (arith, depth-of p, lower (reach p) (depth p) 0 (reach-within p))
depth-of (orderby p os) = omega (arith, depth-of p, lower (reach p) (depth p) (depth_os os) (reach-within p))
depth-of (group ks p rs) = omega (arith, depth-of p, lower (reach p) (depth p) (depth_as rs) (reach-within p))
depth-of (bgp ts) = omega arith
depth-of (path s x o) = omega arith
depth-of (join p q) = omega arith
depth-of (leftjoin p q c) = omega arith
depth-of (filter p e) = omega arith
depth-of (union p q) = omega arith
depth-of (graph n p) = omega arith
depth-of (extend v p e) = omega arith
depth-of (minus p q) = omega arith
depth-of (values cs rs) = omega arith
depth-of (service n s p) = omega arith

-- ---- negate

pub negated-lines : (p : Pattern) → line_count (negate_project_pattern p) ≡ line_count p + put_in (reach p)
unfolding negate_project_pattern line_count
negated-lines p = lines_of p []

pub negated-depth : (p : Pattern) → depth (negate_project_pattern p) ≡ max (depth p) (lowered (reach p))
unfolding negate_project_pattern
negated-depth p = depth-of p

-- the root stays what it is
pub negated-columns : (p : Pattern) → column_count (as_project (negate_project_pattern p)) ≡ column_count (as_project p)
unfolding negate_project_pattern modify_outermost_projection as_project
negated-columns (project cs p) = refl
negated-columns (distinct p) = refl
negated-columns (reduced p) = refl
negated-columns (slice s l p) = refl
negated-columns (orderby p os) = refl
negated-columns (group ks p rs) = refl
negated-columns (bgp ts) = refl
negated-columns (path s t o) = refl
negated-columns (join p q) = refl
negated-columns (leftjoin p q c) = refl
negated-columns (filter p e) = refl
negated-columns (union p q) = refl
negated-columns (graph n p) = refl
negated-columns (extend v p e) = refl
negated-columns (minus p q) = refl
negated-columns (values cs rs) = refl
negated-columns (service n s p) = refl
