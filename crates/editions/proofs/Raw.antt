-- What the translation makes of each kind's spelling, before joins with the empty pattern are dropped; and how many productions its reading opens. Serves proofs only. Assumes nothing.
use Prim.Native.Nat.{ℕ, ◌+◌}
use lib.ListN.{length}
use Rattle.algebra.specs.Tree.{Pattern, bgp, path, join, union, minus, leftjoin, filter, graph, extend, values, orderby, project, distinct, reduced, slice, group, service, Expression, term, bound, exists, apply, call, Condition, always, provided, Expressions, eend, econs, Orders, oend, ocons}
use Rattle.editions.specs.Translation.{Z, block}

unfoldable mutual
  pub raw : Pattern → Pattern
  raw (bgp ts) = block ts Z
  raw (join p q) = join (join Z (raw p)) (raw q)
  raw (leftjoin p q c) = leftjoin (join Z (raw p)) (join Z (raw q)) (raw_c c)
  raw (filter p e) = filter (join Z (raw p)) (raw_e e)
  raw (union p q) = join Z (union (raw p) (raw q))
  raw (graph n p) = join Z (graph n (raw p))
  raw (minus p q) = minus (join Z (raw p)) (raw q)
  raw (extend v p e) = extend v (join Z (raw p)) (raw_e e)
  raw (values cs rs) = join Z (values cs rs)
  raw (orderby p os) = orderby (raw p) (raw_os os)
  raw (project cs p) = project cs (raw p)
  raw (distinct p) = distinct (raw p)
  raw (reduced p) = reduced (raw p)
  raw (slice a n p) = slice a n (raw p)
  raw (path s x o) = path s x o
  raw (group ks p rs) = group ks p rs
  raw (service n f p) = service n f p

  pub raw_e : Expression → Expression
  raw_e (term x) = term x
  raw_e (bound v) = bound v
  raw_e (exists p) = exists (raw p)
  raw_e (apply o es) = apply o (raw_es es)
  raw_e (call n es) = call n es

  pub raw_c : Condition → Condition
  raw_c always = always
  raw_c (provided e) = provided (raw_e e)

  pub raw_es : Expressions → Expressions
  raw_es eend = eend
  raw_es (econs e es) = econs (raw_e e) (raw_es es)

  pub raw_os : Orders → Orders
  raw_os oend = oend
  raw_os (ocons d e os) = ocons d (raw_e e) (raw_os os)

unfoldable mutual
  pub cost : Pattern → ℕ
  cost (bgp ts) = 8 + length ts
  cost (join p q) = 8 + (cost p + cost q)
  cost (leftjoin p q c) = 8 + (cost p + (cost q + cost_c c))
  cost (filter p e) = 8 + (cost p + cost_e e)
  cost (union p q) = 8 + (cost p + cost q)
  cost (graph n p) = 8 + cost p
  cost (minus p q) = 8 + (cost p + cost q)
  cost (extend v p e) = 8 + (cost p + cost_e e)
  cost (values cs rs) = 8 + length rs
  cost (orderby p os) = 8 + (cost p + cost_os os)
  cost (project cs p) = 8 + cost p
  cost (distinct p) = cost p
  cost (reduced p) = cost p
  cost (slice a n p) = cost p
  cost (path s x o) = 8
  cost (group ks p rs) = 8
  cost (service n f p) = 8

  pub cost_e : Expression → ℕ
  cost_e (term x) = 8
  cost_e (bound v) = 8
  cost_e (exists p) = 8 + cost p
  cost_e (apply o es) = 8 + cost_es es
  cost_e (call n es) = 8

  pub cost_c : Condition → ℕ
  cost_c always = 0
  cost_c (provided e) = cost_e e

  pub cost_es : Expressions → ℕ
  cost_es eend = 0
  cost_es (econs e es) = cost_e e + cost_es es

  pub cost_os : Orders → ℕ
  cost_os oend = 1
  cost_os (ocons d e os) = 4 + (cost_e e + cost_os os)
