-- The names at a tree's places stand in its text, each with the tab or line end behind it, beside six bytes at least. Assumes nothing.
use Prim.Native.Nat.{ℕ, ◌+◌, ◌≤◌}
use mathlib.Core.Path.{◌≡◌, ap, ◌∙◌}
use mathlib.Core.List.{List, [], ◌∷◌, ◌++◌}
use native.Mathlib.Omega.{arith}
use lib.ListN.{length}
use Rattle.text.specs.Text.{Bytes, Line}
use Rattle.text.specs.Field.{is_var}
use Rattle.algebra.specs.Tree.{Triple, Pattern, bgp, path, join, union, minus, leftjoin, filter, graph, extend, values, orderby, project, distinct, reduced, slice, group, service}
use Rattle.algebra.specs.Tree.{Expression, term, bound, exists, apply, call, Condition, always, provided, Expressions, eend, econs, Orders, oend, ocons, Aggregates, aend, agg, aggall}
use Rattle.algebra.specs.Layout.{put_triples, put_rows, put, put_e, put_c, put_es, put_os, put_as}
use Rattle.scoping.specs.Sets.{variables_of, triple_variables}
use Rattle.scoping.specs.bridge.Places.{Mark, silent, under, Place, marked, places, places_e, places_c, places_es, places_os, places_as, names_of}
use Rattle.scoping.proofs.FirstPlaces.{names_of-append, names_of-marked}
use Rattle.walking.proofs.Sizes.{width, width-append, size}
use Rattle.room.proofs.Digits.{digits-some}
use Rattle.room.proofs.Names.{keep-width}

-- the bytes of the names at places
abbrev pub spread : List Place → ℕ
spread xs = width (names_of xs)

spread-append : (xs ys : List Place) → spread (xs ++ ys) ≡ spread xs + spread ys
spread-append xs ys = ap width (names_of-append xs ys) ∙ width-append (names_of xs) (names_of ys)

spread-marked : (m : Mark) (vs : List Bytes) → spread (marked m vs) ≡ width vs
spread-marked m vs = ap width (names_of-marked m vs)

spread-fields : (m : Mark) (fs : List Bytes) → spread (marked m (variables_of fs)) ≤ width fs
unfolding variables_of
spread-fields m fs = omega (arith, spread-marked m (variables_of fs), keep-width is_var fs)

triples-spread : (ts : List Triple) (t : List Line) → width (triple_variables ts) + size t ≤ size (put_triples ts t)
unfolding triple_variables put_triples variables_of size width
triples-spread [] t = omega arith
triples-spread (x ∷ xs) t =
    omega (arith, width-append (variables_of (x.subj ∷ x.pred ∷ x.obj ∷ [])) (triple_variables xs), keep-width is_var (x.subj ∷ x.pred ∷ x.obj ∷ []), triples-spread xs t)

rows-size : (rs : List (List Bytes)) (t : List Line) → size t ≤ size (put_rows rs t)
unfolding put_rows size width
rows-size [] t = omega arith
rows-size (r ∷ rs) t = omega (arith, rows-size rs t)

mutual
  unfolding places put size width names_of

  pub spread-size : (p : Pattern) (m : Mark) (t : List Line) → spread (places p m) + size t + 6 ≤ size (put p t)
  spread-size (bgp ts) m t = omega (arith, spread-marked m (triple_variables ts), triples-spread ts t, digits-some (length ts))
  spread-size (path s x o) m t = omega (arith, spread-fields m (s ∷ o ∷ []))
  spread-size (join p q) m t = omega (arith, spread-append (places p m) (places q m), spread-size p m (put q t), spread-size q m t)
  spread-size (union p q) m t = omega (arith, spread-append (places p m) (places q m), spread-size p m (put q t), spread-size q m t)
  spread-size (minus p q) m t = omega (arith, spread-append (places p m) (places q (under m)), spread-size p m (put q t), spread-size q (under m) t)
  spread-size (leftjoin p q c) m t =
      omega (arith, spread-append (places p m) (places q m ++ places_c c), spread-append (places q m) (places_c c), spread-size p m (put q (put_c c t)), spread-size q m (put_c c t), spread_c c t)
  spread-size (filter p e) m t = omega (arith, spread-append (places p m) (places_e e), spread-size p m (put_e e t), spread_e e t)
  spread-size (graph n p) m t = omega (arith, spread-append (marked m (variables_of (n ∷ []))) (places p m), spread-fields m (n ∷ []), spread-size p m t)
  spread-size (extend v p e) m t = omega (arith, spread-append (places p m) (places_e e), spread-size p m (put_e e t), spread_e e t)
  spread-size (values cs rs) m t = omega (arith, spread-marked m cs, rows-size rs t)
  spread-size (orderby p os) m t = omega (arith, spread-append (places p m) (places_os os), spread-size p m (put_os os t), spread_os os t)
  spread-size (project cs p) m t = omega (arith, spread-append (marked m cs) (places p (under m)), spread-marked m cs, spread-size p (under m) t)
  spread-size (distinct p) m t = omega (arith, spread-size p m t)
  spread-size (reduced p) m t = omega (arith, spread-size p m t)
  spread-size (slice s l p) m t = omega (arith, spread-size p m t)
  spread-size (group ks p rs) m t =
      omega (arith, spread-append (marked m ks) (places p (under m) ++ places_as rs m), spread-append (places p (under m)) (places_as rs m), spread-marked m ks, spread-size p (under m) (put_as rs t), spread_as rs m t)
  spread-size (service n f p) m t = omega (arith, spread-append (marked silent (variables_of (n ∷ []))) (places p m), spread-fields silent (n ∷ []), spread-size p m t)

  pub spread_e : (e : Expression) (t : List Line) → spread (places_e e) + size t ≤ size (put_e e t)
  spread_e (term x) t = omega (arith, spread-fields silent (x ∷ []))
  spread_e (bound v) t = omega (arith, spread-marked silent (v ∷ []))
  spread_e (exists p) t = omega (arith, spread-size p silent t)
  spread_e (apply o es) t = omega (arith, spread_es es t)
  spread_e (call n es) t = omega (arith, spread_es es t)

  pub spread_c : (c : Condition) (t : List Line) → spread (places_c c) + size t ≤ size (put_c c t)
  spread_c always t = omega arith
  spread_c (provided e) t = spread_e e t

  spread_es : (es : Expressions) (t : List Line) → spread (places_es es) + size t ≤ size (put_es es t)
  spread_es eend t = omega arith
  spread_es (econs e es) t = omega (arith, spread-append (places_e e) (places_es es), spread_e e (put_es es t), spread_es es t)

  spread_os : (os : Orders) (t : List Line) → spread (places_os os) + size t ≤ size (put_os os t)
  spread_os oend t = omega arith
  spread_os (ocons d e os) t = omega (arith, spread-append (places_e e) (places_os os), spread_e e (put_os os t), spread_os os t)

  spread_as : (rs : Aggregates) (m : Mark) (t : List Line) → spread (places_as rs m) + size t ≤ size (put_as rs t)
  spread_as aend m t = omega arith
  spread_as (agg v n f e rs) m t = omega (arith, spread-append (places_e e) (places_as rs m), spread_e e (put_as rs t), spread_as rs m t)
  spread_as (aggall v f rs) m t = omega (arith, spread_as rs m t)
