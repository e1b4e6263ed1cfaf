-- Every name at a place of a well-formed tree is a variable. Assumes nothing.
use mathlib.Core.Path.{◌≡◌, refl, sym, ap, ◌∙◌}
use mathlib.Core.List.{List, [], ◌∷◌, ◌++◌}
use mathlib.Core.Bool.{Bool, true, false, ◌||◌, false≢true}
use Rattle.text.specs.Text.{Bytes, same}
use Rattle.text.specs.Field.{variable, is_var, clean, is_kind, fits, all_fit}
use Rattle.text.proofs.Basics.{and_left, and_right, same-eq}
use Rattle.algebra.specs.Valid.{mem, Fits, AllFit, Valid, ValidE, ValidC, ValidEs, ValidOs, ValidAs}
use Rattle.algebra.specs.Tree.{Triple}
use Rattle.algebra.specs.Tree.{Pattern, bgp, path, join, union, minus, leftjoin, filter, graph, extend, values, orderby, project, distinct, reduced, slice, group, service}
use Rattle.algebra.specs.Tree.{Expression, term, bound, exists, apply, call, Condition, always, provided, Expressions, eend, econs, Orders, oend, ocons, Aggregates, aend, agg, aggall}
use Rattle.scoping.specs.Sets.{variables_of, triple_variables}
use Rattle.scoping.specs.bridge.Places.{Mark, silent, Place, under, marked, places, places_e, places_c, places_es, places_os, places_as, names_of}
use Rattle.scoping.proofs.Sets.{mem-append, mem-keep}
use Rattle.scoping.proofs.FirstPlaces.{names_of-append, names_of-marked}

-- all these are variables
record Variables (vs : List Bytes) : Type 0 where
  at : (v : Bytes) → mem v vs ≡ true → is_var v ≡ true

pub record Named (xs : List Place) : Type 0 where
  pub at : (v : Bytes) → mem v (names_of xs) ≡ true → is_var v ≡ true

pub or_split : (a b c : Bool) → (a || b) ≡ true → (a ≡ true → c ≡ true) → (b ≡ true → c ≡ true) → c ≡ true
or_split true b c h f g = f refl
or_split false b c h f g = g h

none_named : Named []
unfolding names_of mem
none_named = record { at = λ v h. absurd (false≢true h) }

infixr 20 ◌and◌
◌and◌ : {xs ys : List Place} → Named xs → Named ys → Named (xs ++ ys)
◌and◌ {xs} {ys} a b = record {
  at = λ v h. or_split (mem v (names_of xs)) (mem v (names_of ys)) (is_var v) (sym (mem-append v (names_of xs) (names_of ys)) ∙ ap (mem v) (sym (names_of-append xs ys)) ∙ h) (a.at v) (b.at v);
}

marked-named : (m : Mark) (vs : List Bytes) → Variables vs → Named (marked m vs)
marked-named m vs a = record { at = λ v h. a.at v (ap (mem v) (sym (names_of-marked m vs)) ∙ h) }

fit-variable : (v : Bytes) → Fits variable v → is_var v ≡ true
unfolding fits is_kind
fit-variable v h = and_right (clean v) (is_var v) h

-- columns, keys and set variables, by their kind
columns-variables : (cs : List Bytes) → AllFit variable cs → Variables cs
unfolding all_fit mem
columns-variables [] h = record { at = λ v k. absurd (false≢true k) }
columns-variables (c ∷ cs) h = record {
  at = λ v k. or_split (same v c) (mem v cs) (is_var v) k (λ e. ap is_var (same-eq v c e) ∙ fit-variable c (and_left (fits variable c) (all_fit variable cs) h))
      ((columns-variables cs (and_right (fits variable c) (all_fit variable cs) h)).at v);
}

one-variable : (v : Bytes) → Fits variable v → Variables (v ∷ [])
unfolding mem
one-variable v h = record { at = λ w k. or_split (same w v) false (is_var w) k (λ e. ap is_var (same-eq w v e) ∙ fit-variable v h) (λ e. absurd (false≢true e)) }

-- terms, by the test itself
fields-variables : (fs : List Bytes) → Variables (variables_of fs)
unfolding variables_of
fields-variables fs = record { at = λ v k. and_left (is_var v) (mem v fs) (sym (mem-keep is_var v fs) ∙ k) }

triples-variables : (ts : List Triple) → Variables (triple_variables ts)
unfolding triple_variables mem
triples-variables [] = record { at = λ v k. absurd (false≢true k) }
triples-variables (t ∷ ts) = record {
  at = λ v k. or_split (mem v (variables_of (t.subj ∷ t.pred ∷ t.obj ∷ []))) (mem v (triple_variables ts)) (is_var v)
      (sym (mem-append v (variables_of (t.subj ∷ t.pred ∷ t.obj ∷ [])) (triple_variables ts)) ∙ k)
      ((fields-variables (t.subj ∷ t.pred ∷ t.obj ∷ [])).at v) ((triples-variables ts).at v);
}

fields-named : (m : Mark) (fs : List Bytes) → Named (marked m (variables_of fs))
fields-named m fs = marked-named m (variables_of fs) (fields-variables fs)

mutual
  unfolding Valid places

  pub named : (p : Pattern) (k : Mark) → Valid p → Named (places p k)
  named (bgp ts) k h = marked-named k (triple_variables ts) (triples-variables ts)
  named (path s t o) k h = fields-named k (s ∷ o ∷ [])
  named (join p q) k h = named p k h.0 and named q k h.1
  named (union p q) k h = named p k h.0 and named q k h.1
  named (minus p q) k h = named p k h.0 and named q (under k) h.1
  named (leftjoin p q c) k h = named p k h.0 and (named q k h.1 and named_c c h.2)
  named (filter p e) k h = named p k h.0 and named_e e h.1
  named (graph n p) k h = fields-named k (n ∷ []) and named p k h.1
  named (extend v p e) k h = marked-named k (v ∷ []) (one-variable v h.0) and (named p k h.1 and named_e e h.2)
  named (values cs rs) k h = marked-named k cs (columns-variables cs h.2)
  named (orderby p os) k h = named p k h.1 and named_os os h.2
  named (project cs p) k h = marked-named k cs (columns-variables cs h.0) and named p (under k) h.1
  named (distinct p) k h = named p k h
  named (reduced p) k h = named p k h
  named (slice s l p) k h = named p k h.2
  named (group ks p rs) k h = marked-named k ks (columns-variables ks h.2) and (named p (under k) h.3 and named_as rs k h.4)
  named (service n s p) k h = fields-named silent (n ∷ []) and named p k h.2

  named_e : (e : Expression) → ValidE e → Named (places_e e)
  named_e (term x) h = fields-named silent (x ∷ [])
  named_e (bound v) h = marked-named silent (v ∷ []) (one-variable v h)
  named_e (exists p) h = named p silent h
  named_e (apply o es) h = named_es es h.1
  named_e (call n es) h = named_es es h.2

  named_c : (c : Condition) → ValidC c → Named (places_c c)
  named_c always h = none_named
  named_c (provided e) h = named_e e h

  named_es : (es : Expressions) → ValidEs es → Named (places_es es)
  named_es eend h = none_named
  named_es (econs e es) h = named_e e h.0 and named_es es h.1

  named_os : (os : Orders) → ValidOs os → Named (places_os os)
  named_os oend h = none_named
  named_os (ocons d e os) h = named_e e h.0 and named_os os h.1

  named_as : (rs : Aggregates) (k : Mark) → ValidAs rs → Named (places_as rs k)
  named_as aend k h = none_named
  named_as (agg v n d e rs) k h = marked-named k (v ∷ []) (one-variable v h.0) and (named_e e h.3 and named_as rs k h.4)
  named_as (aggall v d rs) k h = marked-named k (v ∷ []) (one-variable v h.0) and named_as rs k h.2
