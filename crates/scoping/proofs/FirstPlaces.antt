-- A tree's names by first place are those that one walk over its places meets. Assumes nothing.
use mathlib.Core.Path.{◌≡◌, refl, sym, ap, ◌∙◌}
use mathlib.Core.List.{List, [], ◌∷◌, ◌++◌}
use mathlib.Core.Bool.{Bool, true, false, cond, ◌||◌, ◌&&◌, or-false, or_assoc}
use Rattle.text.specs.Text.{Bytes, same}
use Rattle.text.specs.Field.{is_var}
use Rattle.text.proofs.Basics.{same-eq}
use Rattle.algebra.specs.Valid.{mem}
use Rattle.algebra.specs.Tally.{Tally, start, notes, noted, headed, tally_triples, tally_rows, tally, tally_e, tally_c, tally_es, tally_os, tally_as, tally_query}
use Rattle.algebra.specs.Query.{Query}
use Rattle.algebra.specs.Tree.{Triple, Pattern, bgp, path, join, union, minus, leftjoin, filter, graph, extend, values, orderby, project, distinct, reduced, slice, group, service, Expression, term, bound, exists, apply, call, Condition, always, provided, Expressions, eend, econs, Orders, oend, ocons, Aggregates, aend, agg, aggall}
use Rattle.algebra.proofs.Lines.{names-different}
use Rattle.scoping.specs.bridge.Sets.{Once}
use Rattle.scoping.specs.Sets.{keep, variables_of, triple_variables}
use Rattle.scoping.specs.bridge.Places.{Mark, visible, silent, Place, under, marked, places, places_e, places_c, places_es, places_os, places_as, names_of}
use Rattle.scoping.specs.Numbering.{by_place}
use Rattle.scoping.proofs.Sets.{mem-append}

-- ---- names that are noted

pub notes-append : (xs ys ns : List Bytes) → notes (xs ++ ys) ns ≡ notes ys (notes xs ns)
unfolding notes
notes-append [] ys ns = refl
notes-append (x ∷ xs) ys ns = notes-append xs ys (cond (is_var x) (cond (mem x ns) ns (ns ++ (x ∷ []))) ns)

-- only variables are noted
notes-variables : (fs ns : List Bytes) → notes (variables_of fs) ns ≡ notes fs ns
unfolding notes variables_of keep
notes-variables [] ns = refl
notes-variables (f ∷ fs) ns = go (is_var f) refl (notes-variables fs ns) (notes-variables fs (cond (mem f ns) ns (ns ++ (f ∷ []))))
  where
    go : (t : Bool) → is_var f ≡ t → notes (keep is_var fs) ns ≡ notes fs ns
        → notes (keep is_var fs) (cond (mem f ns) ns (ns ++ (f ∷ []))) ≡ notes fs (cond (mem f ns) ns (ns ++ (f ∷ [])))
        → notes (cond t (f ∷ keep is_var fs) (keep is_var fs)) ns ≡ notes fs (cond t (cond (mem f ns) ns (ns ++ (f ∷ []))) ns)
    go true e r s = ap (λ (b : Bool). notes (keep is_var fs) (cond b (cond (mem f ns) ns (ns ++ (f ∷ []))) ns)) e ∙ s
    go false e r s = r

-- ---- names of places

pub names_of-append : (xs ys : List Place) → names_of (xs ++ ys) ≡ names_of xs ++ names_of ys
unfolding names_of
names_of-append [] ys = refl
names_of-append (x ∷ xs) ys = ap (λ (l : List Bytes). x.name ∷ l) (names_of-append xs ys)

pub names_of-marked : (m : Mark) (vs : List Bytes) → names_of (marked m vs) ≡ vs
unfolding names_of marked
names_of-marked m [] = refl
names_of-marked m (v ∷ vs) = ap (λ (l : List Bytes). v ∷ l) (names_of-marked m vs)

-- the names at places, noted behind those there are
noting : List Place → List Bytes → List Bytes
noting xs ns = notes (names_of xs) ns

noting-append : (xs ys : List Place) (ns : List Bytes) → noting (xs ++ ys) ns ≡ noting ys (noting xs ns)
unfolding noting
noting-append xs ys ns = ap (λ (l : List Bytes). notes l ns) (names_of-append xs ys) ∙ notes-append (names_of xs) (names_of ys) ns

noting-marked : (m : Mark) (vs ns : List Bytes) → noting (marked m vs) ns ≡ notes vs ns
unfolding noting
noting-marked m vs ns = ap (λ (l : List Bytes). notes l ns) (names_of-marked m vs)

noting-fields : (m : Mark) (fs ns : List Bytes) → noting (marked m (variables_of fs)) ns ≡ notes fs ns
noting-fields m fs ns = noting-marked m (variables_of fs) ns ∙ notes-variables fs ns

-- one walk after another
then : (xs ys : List Place) (ns ls bs : List Bytes) → ls ≡ noting xs ns → bs ≡ noting ys ls → bs ≡ noting (xs ++ ys) ns
then xs ys ns ls bs e f = f ∙ ap (noting ys) e ∙ sym (noting-append xs ys ns)

-- ---- trees

tally-rows : {A : Type 0} (rs : List A) (m : Tally) → (tally_rows rs m).names ≡ m.names
unfolding tally_rows noted notes
tally-rows [] m = refl
tally-rows (r ∷ rs) m = tally-rows rs (noted [] m)

tally-triples : (ts : List Triple) (m : Tally) → (tally_triples ts m).names ≡ notes (triple_variables ts) m.names
unfolding tally_triples triple_variables noted notes
tally-triples [] m = refl
tally-triples (t ∷ ts) m =
    tally-triples ts (noted (t.subj ∷ t.pred ∷ t.obj ∷ []) m)
    ∙ ap (notes (triple_variables ts)) (sym (notes-variables (t.subj ∷ t.pred ∷ t.obj ∷ []) m.names))
    ∙ sym (notes-append (variables_of (t.subj ∷ t.pred ∷ t.obj ∷ [])) (triple_variables ts) m.names)

mutual
  unfolding tally places noted headed notes noting names_of

  tally-places : (p : Pattern) (k : Mark) (m : Tally) → (tally p m).names ≡ noting (places p k) m.names
  tally-places (bgp ts) k m = tally-triples ts (noted [] m) ∙ sym (noting-marked k (triple_variables ts) m.names)
  tally-places (path s t o) k m = sym (noting-fields k (s ∷ o ∷ []) m.names)
  tally-places (join p q) k m = then (places p k) (places q k) m.names _ _ (tally-places p k (noted [] m)) (tally-places q k (tally p (noted [] m)))
  tally-places (union p q) k m = then (places p k) (places q k) m.names _ _ (tally-places p k (noted [] m)) (tally-places q k (tally p (noted [] m)))
  tally-places (minus p q) k m = then (places p k) (places q (under k)) m.names _ _ (tally-places p k (noted [] m)) (tally-places q (under k) (tally p (noted [] m)))
  tally-places (leftjoin p q c) k m =
      then (places p k) (places q k ++ places_c c) m.names _ _ (tally-places p k (noted [] m))
      (then (places q k) (places_c c) _ _ _ (tally-places q k (tally p (noted [] m))) (tally_c-places c (tally q (tally p (noted [] m)))))
  tally-places (filter p e) k m = then (places p k) (places_e e) m.names _ _ (tally-places p k (noted [] m)) (tally_e-places e (tally p (noted [] m)))
  tally-places (graph n p) k m = then (marked k (variables_of (n ∷ []))) (places p k) m.names _ _ (sym (noting-fields k (n ∷ []) m.names)) (tally-places p k (noted (n ∷ []) m))
  tally-places (extend v p e) k m =
      then (marked k (v ∷ [])) (places p k ++ places_e e) m.names _ _ (sym (noting-marked k (v ∷ []) m.names))
      (then (places p k) (places_e e) _ _ _ (tally-places p k (noted (v ∷ []) m)) (tally_e-places e (tally p (noted (v ∷ []) m))))
  tally-places (values cs rs) k m = tally-rows rs (noted cs (noted [] m)) ∙ sym (noting-marked k cs m.names)
  tally-places (orderby p os) k m = then (places p k) (places_os os) m.names _ _ (tally-places p k (noted [] m)) (tally_os-places os (tally p (noted [] m)))
  tally-places (project cs p) k m = then (marked k cs) (places p (under k)) m.names _ _ (sym (noting-marked k cs m.names)) (tally-places p (under k) (headed cs m))
  tally-places (distinct p) k m = tally-places p k (noted [] m)
  tally-places (reduced p) k m = tally-places p k (noted [] m)
  tally-places (slice s l p) k m = tally-places p k (noted [] m)
  tally-places (group ks p rs) k m =
      then (marked k ks) (places p (under k) ++ places_as rs k) m.names _ _ (sym (noting-marked k ks m.names))
      (then (places p (under k)) (places_as rs k) _ _ _ (tally-places p (under k) (noted ks (noted [] m))) (tally_as-places rs k (tally p (noted ks (noted [] m)))))
  tally-places (service n s p) k m = then (marked silent (variables_of (n ∷ []))) (places p k) m.names _ _ (sym (noting-fields silent (n ∷ []) m.names)) (tally-places p k (noted (n ∷ []) m))

  tally_e-places : (e : Expression) (m : Tally) → (tally_e e m).names ≡ noting (places_e e) m.names
  tally_e-places (term x) m = sym (noting-fields silent (x ∷ []) m.names)
  tally_e-places (bound v) m = sym (noting-marked silent (v ∷ []) m.names)
  tally_e-places (exists p) m = tally-places p silent (noted [] m)
  tally_e-places (apply o es) m = tally_es-places es (noted [] m)
  tally_e-places (call n es) m = tally_es-places es (noted [] m)

  tally_c-places : (c : Condition) (m : Tally) → (tally_c c m).names ≡ noting (places_c c) m.names
  tally_c-places always m = refl
  tally_c-places (provided e) m = tally_e-places e m

  tally_es-places : (es : Expressions) (m : Tally) → (tally_es es m).names ≡ noting (places_es es) m.names
  tally_es-places eend m = refl
  tally_es-places (econs e es) m = then (places_e e) (places_es es) m.names _ _ (tally_e-places e m) (tally_es-places es (tally_e e m))

  tally_os-places : (os : Orders) (m : Tally) → (tally_os os m).names ≡ noting (places_os os) m.names
  tally_os-places oend m = refl
  tally_os-places (ocons d e os) m = then (places_e e) (places_os os) m.names _ _ (tally_e-places e (noted [] m)) (tally_os-places os (tally_e e (noted [] m)))

  tally_as-places : (rs : Aggregates) (k : Mark) (m : Tally) → (tally_as rs m).names ≡ noting (places_as rs k) m.names
  tally_as-places aend k m = refl
  tally_as-places (agg v n d e rs) k m =
      then (marked k (v ∷ [])) (places_e e ++ places_as rs k) m.names _ _ (sym (noting-marked k (v ∷ []) m.names))
      (then (places_e e) (places_as rs k) _ _ _ (tally_e-places e (noted (v ∷ []) m)) (tally_as-places rs k (tally_e e (noted (v ∷ []) m))))
  tally_as-places (aggall v d rs) k m = then (marked k (v ∷ [])) (places_as rs k) m.names _ _ (sym (noting-marked k (v ∷ []) m.names)) (tally_as-places rs k (noted (v ∷ []) m))

-- the names by first place are the names at the places, each noted once
pub by-place-walked : (p : Pattern) → by_place p ≡ notes (names_of (places p visible)) []
unfolding by_place noting
by-place-walked p = tally-places p visible start

-- a query's head line notes none
pub by-place-query : (q : Query) → (tally_query q start).names ≡ by_place q.tree
unfolding by_place tally_query noted notes
by-place-query q = tally-places q.tree visible (noted [] start) ∙ sym (tally-places q.tree visible start)

-- ---- the names noted are the variables among the names met, none twice

mem-notes : (v : Bytes) (fs ns : List Bytes) → is_var v ≡ true → mem v (notes fs ns) ≡ (mem v ns || mem v fs)
unfolding notes mem
mem-notes v [] ns h = sym (or-false (mem v ns))
mem-notes v (f ∷ fs) ns h = mem-notes v fs (cond (is_var f) (cond (mem f ns) ns (ns ++ (f ∷ []))) ns) h ∙ go (is_var f) refl (mem f ns) refl (same v f) refl
  where
    go : (t : Bool) → is_var f ≡ t → (s : Bool) → mem f ns ≡ s → (r : Bool) → same v f ≡ r
        → (mem v (cond t (cond s ns (ns ++ (f ∷ []))) ns) || mem v fs) ≡ (mem v ns || (r || mem v fs))
    go true e true k true i = let z : mem v ns ≡ true = ap (λ (x : Bytes). mem x ns) (same-eq v f i) ∙ k in simp z
    go true e true k false i = refl
    go true e false k r i = ap (λ (b : Bool). b || mem v fs) (mem-append v ns (f ∷ []) ∙ ap (λ (b : Bool). mem v ns || b) (or-false (same v f) ∙ i)) ∙ or_assoc (mem v ns) r (mem v fs)
    go false e s k true i = let z : ◌≡◌ {A = Bool} true false = sym h ∙ ap is_var (same-eq v f i) ∙ e in cc
    go false e s k false i = refl

-- a variable is among the names by first place exactly if it stands somewhere
pub by-place-mem : (p : Pattern) (v : Bytes) → is_var v ≡ true → mem v (by_place p) ≡ mem v (names_of (places p visible))
unfolding mem
by-place-mem p v h = ap (mem v) (by-place-walked p) ∙ mem-notes v (names_of (places p visible)) [] h

pub by-place-once : (p : Pattern) → Once (by_place p)
unfolding by_place
by-place-once p = (names-different p).0
