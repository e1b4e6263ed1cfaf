-- The places of variables in a tree, in one walk from the top down, in the order of the text. Assumes nothing.
-- A variable stands visible unless the way from the root leads through a project's or group's inner pattern or a minus's right side; expressions and a service's name add nothing.
use Rattle.std.specs.Prelude.{Bool, true, false, cond, List, [], ◌∷◌, ◌++◌}
use Rattle.text.specs.Text.{Bytes}
use Rattle.algebra.specs.Tree.{Pattern, bgp, path, join, union, minus, leftjoin, filter, graph, extend, values, orderby, project, distinct, reduced, slice, group, service}
use Rattle.algebra.specs.Tree.{Expression, term, bound, exists, apply, call, Condition, always, provided, Expressions, eend, econs, Orders, oend, ocons, Aggregates, aend, agg, aggall}
use Rattle.scoping.specs.Sets.{variables_of, triple_variables}

-- in scope, hidden, or neither: in an expression, or a service's name
pub data Mark : Type 0 where
  visible covered silent : Mark

-- a variable's place
pub record Place : Type 0 where
  pub name : Bytes
  pub mark : Mark

-- beneath a project or a group, or on the right of a minus
abbrev pub under : Mark → Mark
under visible = covered
under covered = covered
under silent = silent

-- names of a line, all with one mark
unfoldable pub marked : Mark → List Bytes → List Place
marked m [] = []
marked m (v ∷ vs) = record { name = v; mark = m } ∷ marked m vs

-- docs/SPECIFICATION.md, "Lines of a tree": a line's own variables, the patterns under it, the expressions under it; a group's aggregates come last
unfoldable mutual
  unfolding marked variables_of triple_variables

  pub places : Pattern → Mark → List Place
  places (bgp ts) m = marked m (triple_variables ts)
  places (path s t o) m = marked m (variables_of (s ∷ o ∷ []))
  places (join p q) m = places p m ++ places q m
  places (union p q) m = places p m ++ places q m
  places (minus p q) m = places p m ++ places q (under m)
  places (leftjoin p q c) m = places p m ++ (places q m ++ places_c c)
  places (filter p e) m = places p m ++ places_e e
  places (graph n p) m = marked m (variables_of (n ∷ [])) ++ places p m
  places (extend v p e) m = marked m (v ∷ []) ++ (places p m ++ places_e e)
  places (values cs rs) m = marked m cs
  places (orderby p os) m = places p m ++ places_os os
  places (project cs p) m = marked m cs ++ places p (under m)
  places (distinct p) m = places p m
  places (reduced p) m = places p m
  places (slice s l p) m = places p m
  places (group ks p rs) m = marked m ks ++ (places p (under m) ++ places_as rs m)
  places (service n s p) m = marked silent (variables_of (n ∷ [])) ++ places p m

  pub places_e : Expression → List Place
  places_e (term x) = marked silent (variables_of (x ∷ []))
  places_e (bound v) = marked silent (v ∷ [])
  places_e (exists p) = places p silent
  places_e (apply o es) = places_es es
  places_e (call n es) = places_es es

  pub places_c : Condition → List Place
  places_c always = []
  places_c (provided e) = places_e e

  pub places_es : Expressions → List Place
  places_es eend = []
  places_es (econs e es) = places_e e ++ places_es es

  pub places_os : Orders → List Place
  places_os oend = []
  places_os (ocons d e os) = places_e e ++ places_os os

  pub places_as : Aggregates → Mark → List Place
  places_as aend m = []
  places_as (agg v n d e rs) m = marked m (v ∷ []) ++ (places_e e ++ places_as rs m)
  places_as (aggall v d rs) m = marked m (v ∷ []) ++ places_as rs m

-- the two sets
pub data Scope : Type 0 where
  in_scope hidden : Scope

-- a place of that mark counts for the set
abbrev pub counts : Scope → Mark → Bool
counts in_scope visible = true
counts in_scope covered = false
counts in_scope silent = false
counts hidden visible = false
counts hidden covered = true
counts hidden silent = false

-- the names at the places of a set
unfoldable pub names_at : Scope → List Place → List Bytes
names_at k [] = []
names_at k (x ∷ xs) = cond (counts k x.mark) (x.name ∷ names_at k xs) (names_at k xs)

-- the names at all places
unfoldable pub names_of : List Place → List Bytes
names_of [] = []
names_of (x ∷ xs) = x.name ∷ names_of xs

-- the variables of a tree that stand visible, and those that stand hidden
unfoldable pub visible_names : Pattern → List Bytes
unfolding names_at places
visible_names p = names_at in_scope (places p visible)

unfoldable pub hidden_names : Pattern → List Bytes
unfolding names_at places
hidden_names p = names_at hidden (places p visible)
