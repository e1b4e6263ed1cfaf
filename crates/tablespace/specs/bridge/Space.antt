-- How much of the lent space the tables of a tree take at most at one time. Assumes nothing.
use Rattle.std.specs.Prelude.{ℕ, ◌+◌, max, length}
use Rattle.algebra.specs.Tree.{Pattern, bgp, path, join, union, minus, leftjoin, filter, graph, extend, values, orderby, project, distinct, reduced, slice, group, service}
use Rattle.evaluating.specs.bridge.Tables.{columns_of}

-- a row of a pattern's table: its cells and its count, which takes two entries
unfoldable pub row_of : Pattern → ℕ
unfolding columns_of
row_of p = length (columns_of p) + 2

-- of two tables the second is made while the first stays
abbrev pub over : ℕ → ℕ → ℕ → ℕ
over before first second = max before (first + second)

-- the most entries for one row of each table that stand at one time: the left table stays while the right one is made, both stay while theirs is made, which then takes their place;
-- rows are taken out of a table, and counts set to 1, where it stands; in a bgp two tables stand, none wider than the last
unfoldable pub peak : Pattern → ℕ
unfolding row_of
peak (bgp ts) = row_of (bgp ts) + row_of (bgp ts)
peak (join p q) = over (peak p) (row_of p) (over (peak q) (row_of q) (row_of (join p q)))
peak (leftjoin p q c) = over (peak p) (row_of p) (over (peak q) (row_of q) (row_of (leftjoin p q c)))
peak (union p q) = over (peak p) (row_of p) (over (peak q) (row_of q) (row_of (union p q)))
peak (minus p q) = over (peak p) (row_of p) (peak q)
peak (filter p e) = peak p
peak (extend v p e) = over (peak p) (row_of p) (row_of (extend v p e))
peak (values cs rs) = row_of (values cs rs)
peak (project cs p) = over (peak p) (row_of p) (row_of (project cs p))
peak (distinct p) = peak p
peak (path s t o) = 0
peak (graph n p) = 0
peak (orderby p os) = 0
peak (reduced p) = 0
peak (slice s l p) = 0
peak (group ks p rs) = 0
peak (service n s p) = 0
