-- One walk down gives nemo's two sets: the names that stand visible are those in scope, the names that stand covered are those hidden. Assumes nothing.
use mathlib.Core.Path.{◌≡◌, refl, sym, ap, ◌∙◌}
use mathlib.Core.List.{List, [], ◌∷◌, ◌++◌}
use mathlib.Core.Bool.{Bool, true, false, cond, ◌||◌, ◌&&◌, or-false}
use Rattle.text.specs.Text.{Bytes, same}
use Rattle.algebra.specs.Valid.{mem}
use Rattle.algebra.specs.Tree.{Pattern, bgp, path, join, union, minus, leftjoin, filter, graph, extend, values, orderby, project, distinct, reduced, slice, group, service}
use Rattle.algebra.specs.Tree.{Expression, term, bound, exists, apply, call, Condition, always, provided, Expressions, eend, econs, Orders, oend, ocons, Aggregates, aend, agg, aggall}
use Rattle.scoping.specs.Sets.{Alike, variables_of, triple_variables, aggregate_variables}
use Rattle.scoping.specs.Variables.{variables_in_pattern}
use Rattle.scoping.specs.bridge.Places.{Mark, visible, covered, silent, Place, under, marked, places, places_e, places_c, places_es, places_os, places_as, Scope, in_scope, hidden, counts, names_at, visible_names, hidden_names}
use Rattle.scoping.proofs.Sets.{and_none, mem-append, swap_inner, alike-nil, alike-swap}

-- what places under the mark m say of a set, from the pattern's own two sets
abbrev combine : Mark → Scope → Bool → Bool → Bool
combine visible in_scope i h = i
combine visible hidden i h = h
combine covered in_scope i h = false
combine covered hidden i h = h || i
combine silent in_scope i h = false
combine silent hidden i h = false

record Says (xs : List Place) (m : Mark) (i h : List Bytes) : Type 0 where
  at : (v : Bytes) (k : Scope) → mem v (names_at k xs) ≡ combine m k (mem v i) (mem v h)

-- ---- marks

linear : (m : Mark) (k : Scope) (a b c d : Bool) → (combine m k a b || combine m k c d) ≡ combine m k (a || c) (b || d)
linear visible in_scope a b c d = refl
linear visible hidden a b c d = refl
linear covered in_scope a b c d = refl
linear covered hidden a b c d = swap_inner b a d c
linear silent in_scope a b c d = refl
linear silent hidden a b c d = refl

down : (m : Mark) (k : Scope) (i h : Bool) → combine (under m) k i h ≡ combine m k false (h || i)
down visible in_scope i h = refl
down visible hidden i h = refl
down covered in_scope i h = refl
down covered hidden i h = sym (or-false (h || i))
down silent in_scope i h = refl
down silent hidden i h = refl

leaf : (m : Mark) (k : Scope) (b : Bool) → (counts k m && b) ≡ combine m k b false
leaf visible in_scope b = refl
leaf visible hidden b = refl
leaf covered in_scope b = refl
leaf covered hidden b = refl
leaf silent in_scope b = refl
leaf silent hidden b = refl

nothing : (m : Mark) (k : Scope) → false ≡ combine m k false false
nothing visible in_scope = refl
nothing visible hidden = refl
nothing covered in_scope = refl
nothing covered hidden = refl
nothing silent in_scope = refl
nothing silent hidden = refl

mute : (k : Scope) (i h : Bool) → combine silent k i h ≡ false
mute in_scope i h = refl
mute hidden i h = refl

-- ---- lists of places

names_at-append : (k : Scope) (xs ys : List Place) → names_at k (xs ++ ys) ≡ names_at k xs ++ names_at k ys
unfolding names_at
names_at-append k [] ys = refl
names_at-append k (x ∷ xs) ys = go (counts k x.mark) (names_at-append k xs ys)
  where
    go : (t : Bool) → names_at k (xs ++ ys) ≡ names_at k xs ++ names_at k ys
        → cond t (x.name ∷ names_at k (xs ++ ys)) (names_at k (xs ++ ys)) ≡ cond t (x.name ∷ names_at k xs) (names_at k xs) ++ names_at k ys
    go true e = ap (λ (l : List Bytes). x.name ∷ l) e
    go false e = e

mem-marked : (v : Bytes) (k : Scope) (m : Mark) (vs : List Bytes) → mem v (names_at k (marked m vs)) ≡ (counts k m && mem v vs)
unfolding names_at marked mem
mem-marked v k m [] = sym (and_none (counts k m))
mem-marked v k m (x ∷ vs) = go (counts k m) (mem-marked v k m vs)
  where
    go : (t : Bool) → mem v (names_at k (marked m vs)) ≡ (t && mem v vs)
        → mem v (cond t (x ∷ names_at k (marked m vs)) (names_at k (marked m vs))) ≡ (t && (same v x || mem v vs))
    go true e = ap (λ (b : Bool). same v x || b) e
    go false e = e

says-append : {xs ys : List Place} {m : Mark} {i j h g : List Bytes} → Says xs m i h → Says ys m j g → Says (xs ++ ys) m (i ++ j) (h ++ g)
says-append {xs} {ys} {m} {i} {j} {h} {g} a b = record {
  at = λ v k. simp (names_at-append, mem-append) (simp (a.at v k, b.at v k) (linear m k (mem v i) (mem v h) (mem v j) (mem v g)));
}

says-marked : (m : Mark) (vs : List Bytes) → Says (marked m vs) m vs []
unfolding mem
says-marked m vs = record { at = λ v k. mem-marked v k m vs ∙ leaf m k (mem v vs) }

says_none : (m : Mark) → Says [] m [] []
unfolding names_at mem
says_none m = record { at = λ v k. nothing m k }

says-under : {xs : List Place} (m : Mark) {i h : List Bytes} → Says xs (under m) i h → Says xs m [] (h ++ i)
unfolding mem
says-under {xs} m {i} {h} a = record { at = λ v k. a.at v k ∙ down m k (mem v i) (mem v h) ∙ ap (combine m k false) (sym (mem-append v h i)) }

says-mute : {xs : List Place} {i h : List Bytes} (m : Mark) → Says xs silent i h → Says xs m [] []
unfolding mem
says-mute {xs} {i} {h} m a = record { at = λ v k. a.at v k ∙ mute k (mem v i) (mem v h) ∙ nothing m k }

says-alike : {xs : List Place} {m : Mark} {i j h g : List Bytes} → Says xs m i h → Alike i j → Alike h g → Says xs m j g
says-alike {xs} {m} {i} {j} {h} {g} a e f = record { at = λ v k. a.at v k ∙ (λ t. combine m k (e v t) (f v t)) }

says-with : {xs ys : List Place} {m : Mark} {i h : List Bytes} → Says xs m i h → Says ys m [] [] → Says (xs ++ ys) m i h
says-with {xs} {ys} {m} {i} {h} a b = says-alike (says-append a b) (alike-nil i) (alike-nil h)

-- ---- trees

mutual
  unfolding places variables_in_pattern aggregate_variables

  says : (p : Pattern) (m : Mark) → Says (places p m) m (variables_in_pattern p).in_scope (variables_in_pattern p).hidden
  says (bgp ts) m = says-marked m (triple_variables ts)
  says (path s t o) m = says-marked m (variables_of (s ∷ o ∷ []))
  says (values cs rs) m = says-marked m cs
  says (join p q) m = says-append (says p m) (says q m)
  says (union p q) m = says-append (says p m) (says q m)
  says (minus p q) m =
      says-alike (says-append (says p m) (says-under m (says q (under m)))) (alike-nil (variables_in_pattern p).in_scope)
      (alike-swap (variables_in_pattern p).hidden ((variables_in_pattern q).hidden ++ (variables_in_pattern q).in_scope))
  says (leftjoin p q c) m = says-append (says p m) (says-with (says q m) (says_c c m))
  says (filter p e) m = says-with (says p m) (says_e e m)
  says (graph n p) m = says-append (says-marked m (variables_of (n ∷ []))) (says p m)
  says (extend v p e) m = says-append (says-marked m (v ∷ [])) (says-with (says p m) (says_e e m))
  says (orderby p os) m = says-with (says p m) (says_os os m)
  says (project cs p) m =
      says-alike (says-append (says-marked m cs) (says-under m (says p (under m)))) (alike-nil cs)
      (alike-swap [] ((variables_in_pattern p).hidden ++ (variables_in_pattern p).in_scope))
  says (distinct p) m = says p m
  says (reduced p) m = says p m
  says (slice s l p) m = says p m
  says (group ks p rs) m = says-append (says-marked m ks) (says-append (says-under m (says p (under m))) (says_as rs m))
  says (service n s p) m = says-append (says-mute m (says-marked silent (variables_of (n ∷ [])))) (says p m)

  says_e : (e : Expression) (m : Mark) → Says (places_e e) m [] []
  says_e (term x) m = says-mute m (says-marked silent (variables_of (x ∷ [])))
  says_e (bound v) m = says-mute m (says-marked silent (v ∷ []))
  says_e (exists p) m = says-mute m (says p silent)
  says_e (apply o es) m = says_es es m
  says_e (call n es) m = says_es es m

  says_c : (c : Condition) (m : Mark) → Says (places_c c) m [] []
  says_c always m = says_none m
  says_c (provided e) m = says_e e m

  says_es : (es : Expressions) (m : Mark) → Says (places_es es) m [] []
  says_es eend m = says_none m
  says_es (econs e es) m = says-append (says_e e m) (says_es es m)

  says_os : (os : Orders) (m : Mark) → Says (places_os os) m [] []
  says_os oend m = says_none m
  says_os (ocons d e os) m = says-append (says_e e m) (says_os os m)

  says_as : (rs : Aggregates) (m : Mark) → Says (places_as rs m) m (aggregate_variables rs) []
  says_as aend m = says_none m
  says_as (agg v n d e rs) m = says-append (says-marked m (v ∷ [])) (says-append (says_e e m) (says_as rs m))
  says_as (aggall v d rs) m = says-append (says-marked m (v ∷ [])) (says_as rs m)

-- ---- the two sets

pub visible-in-scope : (p : Pattern) → Alike (visible_names p) (variables_in_pattern p).in_scope
unfolding visible_names
visible-in-scope p v = (says p visible).at v in_scope

pub covered-hidden : (p : Pattern) → Alike (hidden_names p) (variables_in_pattern p).hidden
unfolding hidden_names
covered-hidden p v = (says p visible).at v hidden
