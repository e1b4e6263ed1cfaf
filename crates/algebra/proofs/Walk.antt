-- One induction for all that is counted line by line: what each line keeps, the lines of a tree, a query and a list keep. Assumes nothing.
use Prim.Native.Nat.{◌<◌}
use mathlib.Core.List.{List, [], ◌∷◌}
use native.Mathlib.Omega.{arith}
use lib.ListN.{length}
use Rattle.text.specs.Text.{Bytes, Line}
use Rattle.algebra.specs.Tree.{Triple, Pattern, bgp, path, join, union, minus, leftjoin, filter, graph, extend, values, orderby, project, distinct, reduced, slice, group, service, Expression, term, bound, exists, apply, call, Condition, always, provided, Expressions, eend, econs, Orders, oend, ocons, Aggregates, aend, agg, aggall}
use Rattle.algebra.specs.Query.{Query, Value, BindingSet, Filter, leaf, ref, function, Filters, fend, fcons}
use Rattle.algebra.specs.Layout.{put_triples, put_rows, put, put_e, put_c, put_es, put_os, put_as, put_query, put_value_rows, put_sets, put_filter, put_parts, put_filters}
use Rattle.algebra.specs.Tally.{Tally, noted, headed, tally_triples, tally_rows, tally, tally_e, tally_c, tally_es, tally_os, tally_as, tally_query, tally_sets, tally_filter, tally_parts, tally_filters}

-- I holds of the lines to come and of what is counted so far: each line that is counted keeps it
pub record Keeps (I : List Line → Tally → Type 0) : Type 0 where
  pub noted : (l : Line) (s : List Line) (fs : List Bytes) (m : Tally) → length fs < length l → I (l ∷ s) m → I s (noted fs m)
  pub headed : (w : Bytes) (cs : List Bytes) (s : List Line) (m : Tally) → I ((w ∷ cs) ∷ s) m → I s (headed cs m)

module _ (I : List Line → Tally → Type 0) (k : Keeps I) where
  pub walk-triples : (ts : List Triple) (t : List Line) (m : Tally) → I (put_triples ts t) m → I t (tally_triples ts m)
  unfolding put_triples tally_triples
  walk-triples [] t m i = i
  walk-triples (x ∷ xs) t m i = walk-triples xs t _ (k.noted _ _ _ m (omega arith) i)

  pub walk_rows : (rs : List (List Bytes)) (t : List Line) (m : Tally) → I (put_rows rs t) m → I t (tally_rows rs m)
  unfolding put_rows tally_rows
  walk_rows [] t m i = i
  walk_rows (r ∷ rs) t m i = walk_rows rs t _ (k.noted _ _ _ m (omega arith) i)

  mutual
    unfolding put tally

    pub walk : (p : Pattern) (t : List Line) (m : Tally) → I (put p t) m → I t (tally p m)
    walk (bgp ts) t m i = walk-triples ts t _ (k.noted _ _ _ m (omega arith) i)
    walk (path s x o) t m i = k.noted _ _ _ m (omega arith) i
    walk (join p q) t m i = walk q t _ (walk p _ _ (k.noted _ _ _ m (omega arith) i))
    walk (union p q) t m i = walk q t _ (walk p _ _ (k.noted _ _ _ m (omega arith) i))
    walk (minus p q) t m i = walk q t _ (walk p _ _ (k.noted _ _ _ m (omega arith) i))
    walk (leftjoin p q c) t m i = walk_c c t _ (walk q _ _ (walk p _ _ (k.noted _ _ _ m (omega arith) i)))
    walk (filter p e) t m i = walk_e e t _ (walk p _ _ (k.noted _ _ _ m (omega arith) i))
    walk (graph n p) t m i = walk p t _ (k.noted _ _ _ m (omega arith) i)
    walk (extend v p e) t m i = walk_e e t _ (walk p _ _ (k.noted _ _ _ m (omega arith) i))
    walk (values cs rs) t m i = walk_rows rs t _ (k.noted _ _ _ _ (omega arith) (k.noted _ _ _ m (omega arith) i))
    walk (orderby p os) t m i = walk_os os t _ (walk p _ _ (k.noted _ _ _ m (omega arith) i))
    walk (project cs p) t m i = walk p t _ (k.headed _ _ _ m i)
    walk (distinct p) t m i = walk p t _ (k.noted _ _ _ m (omega arith) i)
    walk (reduced p) t m i = walk p t _ (k.noted _ _ _ m (omega arith) i)
    walk (slice a n p) t m i = walk p t _ (k.noted _ _ _ m (omega arith) i)
    walk (group ks p rs) t m i = walk_as rs t _ (walk p _ _ (k.noted _ _ _ _ (omega arith) (k.noted _ _ _ m (omega arith) i)))
    walk (service n f p) t m i = walk p t _ (k.noted _ _ _ m (omega arith) i)

    pub walk_e : (e : Expression) (t : List Line) (m : Tally) → I (put_e e t) m → I t (tally_e e m)
    walk_e (term x) t m i = k.noted _ _ _ m (omega arith) i
    walk_e (bound v) t m i = k.noted _ _ _ m (omega arith) i
    walk_e (exists p) t m i = walk p t _ (k.noted _ _ _ m (omega arith) i)
    walk_e (apply o es) t m i = walk_es es t _ (k.noted _ _ _ m (omega arith) i)
    walk_e (call n es) t m i = walk_es es t _ (k.noted _ _ _ m (omega arith) i)

    pub walk_c : (c : Condition) (t : List Line) (m : Tally) → I (put_c c t) m → I t (tally_c c m)
    walk_c always t m i = i
    walk_c (provided e) t m i = walk_e e t m i

    pub walk_es : (es : Expressions) (t : List Line) (m : Tally) → I (put_es es t) m → I t (tally_es es m)
    walk_es eend t m i = i
    walk_es (econs e es) t m i = walk_es es t _ (walk_e e _ m i)

    pub walk_os : (os : Orders) (t : List Line) (m : Tally) → I (put_os os t) m → I t (tally_os os m)
    walk_os oend t m i = i
    walk_os (ocons d e os) t m i = walk_os os t _ (walk_e e _ _ (k.noted _ _ _ m (omega arith) i))

    pub walk_as : (rs : Aggregates) (t : List Line) (m : Tally) → I (put_as rs t) m → I t (tally_as rs m)
    walk_as aend t m i = i
    walk_as (agg v n f e rs) t m i = walk_as rs t _ (walk_e e _ _ (k.noted _ _ _ m (omega arith) i))
    walk_as (aggall v f rs) t m i = walk_as rs t _ (k.noted _ _ _ m (omega arith) i)

  pub walk-query : (q : Query) (t : List Line) (m : Tally) → I (put_query q t) m → I t (tally_query q m)
  unfolding put_query tally_query
  walk-query q t m i = walk q.tree t _ (k.noted _ _ _ m (omega arith) i)

  pub walk-values : (rs : List (List Value)) (t : List Line) (m : Tally) → I (put_value_rows rs t) m → I t (tally_rows rs m)
  unfolding put_value_rows tally_rows
  walk-values [] t m i = i
  walk-values (r ∷ rs) t m i = walk-values rs t _ (k.noted _ _ _ m (omega arith) i)

  pub walk-sets : (xs : List BindingSet) (t : List Line) (m : Tally) → I (put_sets xs t) m → I t (tally_sets xs m)
  unfolding put_sets tally_sets
  walk-sets [] t m i = i
  walk-sets (x ∷ xs) t m i = walk-sets xs t _ (walk-values x.rows _ _ (k.noted _ _ [] _ (omega arith) (k.noted _ _ [] m (omega arith) i)))

  mutual
    unfolding put_filter tally_filter

    pub walk-filter : (f : Filter) (t : List Line) (m : Tally) → I (put_filter f t) m → I t (tally_filter f m)
    walk-filter (leaf v) t m i = k.noted _ _ [] m (omega arith) i
    walk-filter (ref n) t m i = k.noted _ _ [] m (omega arith) i
    walk-filter (function w n fs) t m i = walk-parts fs t _ (k.noted _ _ [] m (omega arith) i)

    pub walk-parts : (fs : Filters) (t : List Line) (m : Tally) → I (put_parts fs t) m → I t (tally_parts fs m)
    walk-parts fend t m i = i
    walk-parts (fcons f fs) t m i = walk-parts fs t _ (walk-filter f _ m i)

  pub walk-filters : (fs : List Filter) (t : List Line) (m : Tally) → I (put_filters fs t) m → I t (tally_filters fs m)
  unfolding put_filters tally_filters
  walk-filters [] t m i = i
  walk-filters (f ∷ fs) t m i = walk-filters fs t _ (walk-filter f _ m i)
