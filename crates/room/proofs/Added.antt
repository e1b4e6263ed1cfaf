-- A tree takes the same bytes in front of whatever lines. Assumes nothing.
use Prim.Native.Nat.{◌+◌}
use mathlib.Core.Path.{◌≡◌}
use mathlib.Core.List.{List, [], ◌∷◌}
use native.Mathlib.Omega.{arith}
use Rattle.text.specs.Text.{Bytes, Line}
use Rattle.algebra.specs.Tree.{Triple, Pattern, bgp, path, join, union, minus, leftjoin, filter, graph, extend, values, orderby, project, distinct, reduced, slice, group, service}
use Rattle.algebra.specs.Tree.{Expression, term, bound, exists, apply, call, Condition, always, provided, Expressions, eend, econs, Orders, oend, ocons, Aggregates, aend, agg, aggall}
use Rattle.algebra.specs.Layout.{put_triples, put_rows, put, put_e, put_c, put_es, put_os, put_as}
use Rattle.walking.proofs.Sizes.{width, size}

triples-same : (ts : List Triple) (a b : List Line) → size (put_triples ts a) + size b ≡ size (put_triples ts b) + size a
unfolding put_triples size width
triples-same [] a b = omega arith
triples-same (x ∷ xs) a b = omega (arith, triples-same xs a b)

rows_same : (rs : List (List Bytes)) (a b : List Line) → size (put_rows rs a) + size b ≡ size (put_rows rs b) + size a
unfolding put_rows size width
rows_same [] a b = omega arith
rows_same (r ∷ rs) a b = omega (arith, rows_same rs a b)

mutual
  unfolding put size width

  pub put_same : (p : Pattern) (a b : List Line) → size (put p a) + size b ≡ size (put p b) + size a
  put_same (bgp ts) a b = omega (arith, triples-same ts a b)
  put_same (path s x o) a b = omega arith
  put_same (join p q) a b = omega (arith, put_same p (put q a) (put q b), put_same q a b)
  put_same (union p q) a b = omega (arith, put_same p (put q a) (put q b), put_same q a b)
  put_same (minus p q) a b = omega (arith, put_same p (put q a) (put q b), put_same q a b)
  put_same (leftjoin p q c) a b = omega (arith, put_same p (put q (put_c c a)) (put q (put_c c b)), put_same q (put_c c a) (put_c c b), same_c c a b)
  put_same (filter p e) a b = omega (arith, put_same p (put_e e a) (put_e e b), put_e-same e a b)
  put_same (graph n p) a b = omega (arith, put_same p a b)
  put_same (extend v p e) a b = omega (arith, put_same p (put_e e a) (put_e e b), put_e-same e a b)
  put_same (values cs rs) a b = omega (arith, rows_same rs a b)
  put_same (orderby p os) a b = omega (arith, put_same p (put_os os a) (put_os os b), same_os os a b)
  put_same (project cs p) a b = omega (arith, put_same p a b)
  put_same (distinct p) a b = omega (arith, put_same p a b)
  put_same (reduced p) a b = omega (arith, put_same p a b)
  put_same (slice s l p) a b = omega (arith, put_same p a b)
  put_same (group ks p rs) a b = omega (arith, put_same p (put_as rs a) (put_as rs b), same_as rs a b)
  put_same (service n f p) a b = omega (arith, put_same p a b)

  pub put_e-same : (e : Expression) (a b : List Line) → size (put_e e a) + size b ≡ size (put_e e b) + size a
  put_e-same (term x) a b = omega arith
  put_e-same (bound v) a b = omega arith
  put_e-same (exists p) a b = omega (arith, put_same p a b)
  put_e-same (apply o es) a b = omega (arith, same_es es a b)
  put_e-same (call n es) a b = omega (arith, same_es es a b)

  same_c : (c : Condition) (a b : List Line) → size (put_c c a) + size b ≡ size (put_c c b) + size a
  same_c always a b = omega arith
  same_c (provided e) a b = put_e-same e a b

  same_es : (es : Expressions) (a b : List Line) → size (put_es es a) + size b ≡ size (put_es es b) + size a
  same_es eend a b = omega arith
  same_es (econs e es) a b = omega (arith, put_e-same e (put_es es a) (put_es es b), same_es es a b)

  same_os : (os : Orders) (a b : List Line) → size (put_os os a) + size b ≡ size (put_os os b) + size a
  same_os oend a b = omega arith
  same_os (ocons d e os) a b = omega (arith, put_e-same e (put_os os a) (put_os os b), same_os os a b)

  same_as : (rs : Aggregates) (a b : List Line) → size (put_as rs a) + size b ≡ size (put_as rs b) + size a
  same_as aend a b = omega arith
  same_as (agg v n f e rs) a b = omega (arith, put_e-same e (put_as rs a) (put_as rs b), same_as rs a b)
  same_as (aggall v f rs) a b = omega (arith, same_as rs a b)
