-- What the translation makes of a pattern's spelling is the pattern, once joins with the empty pattern are dropped on both sides. Assumes nothing.
use mathlib.Core.Path.{◌≡◌, refl, ap, ap₂}
use mathlib.Core.List.{[], ◌∷◌}
use Rattle.algebra.specs.Tree.{Pattern, bgp, path, join, union, minus, leftjoin, filter, graph, extend, values, orderby, project, distinct, reduced, slice, group, service, Expression, term, bound, exists, apply, call, Condition, always, provided, Expressions, eend, econs, Orders, oend, ocons}
use Rattle.editions.specs.Simplified.{joined, simplified, simplified_e, simplified_c, simplified_es, simplified_os}
use Rattle.editions.proofs.Raw.{raw, raw_e, raw_c, raw_es, raw_os}

mutual
  unfolding simplified joined raw

  pub dropped : (p : Pattern) → simplified (raw p) ≡ simplified p
  dropped (bgp []) = refl
  dropped (bgp (t ∷ ts)) = refl
  dropped (join p q) = ap₂ joined (dropped p) (dropped q)
  dropped (leftjoin p q c) = λ i. leftjoin (dropped p i) (dropped q i) (dropped_c c i)
  dropped (filter p e) = ap₂ filter (dropped p) (dropped_e e)
  dropped (union p q) = ap₂ union (dropped p) (dropped q)
  dropped (graph n p) = ap (graph n) (dropped p)
  dropped (minus p q) = ap₂ minus (dropped p) (dropped q)
  dropped (extend v p e) = ap₂ (extend v) (dropped p) (dropped_e e)
  dropped (values cs rs) = refl
  dropped (orderby p os) = ap₂ orderby (dropped p) (dropped_os os)
  dropped (project cs p) = ap (project cs) (dropped p)
  dropped (distinct p) = ap distinct (dropped p)
  dropped (reduced p) = ap reduced (dropped p)
  dropped (slice a n p) = ap (slice a n) (dropped p)
  dropped (path s x o) = refl
  dropped (group ks p rs) = refl
  dropped (service n f p) = refl

  pub dropped_e : (x : Expression) → simplified_e (raw_e x) ≡ simplified_e x
  dropped_e (term x) = refl
  dropped_e (bound v) = refl
  dropped_e (exists p) = ap exists (dropped p)
  dropped_e (apply o es) = ap (apply o) (dropped_es es)
  dropped_e (call n es) = refl

  pub dropped_c : (c : Condition) → simplified_c (raw_c c) ≡ simplified_c c
  dropped_c always = refl
  dropped_c (provided e) = ap provided (dropped_e e)

  pub dropped_es : (es : Expressions) → simplified_es (raw_es es) ≡ simplified_es es
  dropped_es eend = refl
  dropped_es (econs e es) = ap₂ econs (dropped_e e) (dropped_es es)

  pub dropped_os : (os : Orders) → simplified_os (raw_os os) ≡ simplified_os os
  dropped_os oend = refl
  dropped_os (ocons d e os) = ap₂ (ocons d) (dropped_e e) (dropped_os os)
