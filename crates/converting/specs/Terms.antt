-- The terms of a tree, graph and service names included, and a tree whose IRIs become others. docs/SPECIFICATION.md, "namespaces". Assumes nothing.
-- Columns and other variables are no IRIs; path texts, call and aggregate names are no terms, and a datatype is a part of its literal.
use Rattle.std.specs.Prelude.{cond, List, [], ◌∷◌, ◌++◌, map}
use Rattle.text.specs.Text.{Bytes}
use Rattle.text.specs.Field.{is_iri}
use Rattle.algebra.specs.Tree.{Triple, Pattern, bgp, path, join, union, minus, leftjoin, filter, graph, extend, values, orderby, project, distinct, reduced, slice, group, service}
use Rattle.algebra.specs.Tree.{Expression, term, bound, exists, apply, call, Condition, always, provided, Expressions, eend, econs, Orders, oend, ocons, Aggregates, aend, agg, aggall}
use Rattle.scoping.specs.Sets.{keep}

-- ---- the terms

unfoldable pub triple_terms : List Triple → List Bytes
triple_terms [] = []
triple_terms (x ∷ xs) = x.subj ∷ x.pred ∷ x.obj ∷ triple_terms xs

unfoldable pub cell_terms : List (List Bytes) → List Bytes
cell_terms [] = []
cell_terms (r ∷ rs) = r ++ cell_terms rs

unfoldable mutual
  unfolding triple_terms cell_terms

  pub terms_of : Pattern → List Bytes
  terms_of (bgp ts) = triple_terms ts
  terms_of (path s x o) = s ∷ o ∷ []
  terms_of (join p q) = terms_of p ++ terms_of q
  terms_of (union p q) = terms_of p ++ terms_of q
  terms_of (minus p q) = terms_of p ++ terms_of q
  terms_of (leftjoin p q c) = terms_of p ++ (terms_of q ++ terms_of_c c)
  terms_of (filter p e) = terms_of p ++ terms_of_e e
  terms_of (graph n p) = n ∷ terms_of p
  terms_of (extend v p e) = terms_of p ++ terms_of_e e
  terms_of (values cs rs) = cell_terms rs
  terms_of (orderby p os) = terms_of p ++ terms_of_os os
  terms_of (project cs p) = terms_of p
  terms_of (distinct p) = terms_of p
  terms_of (reduced p) = terms_of p
  terms_of (slice s l p) = terms_of p
  terms_of (group ks p rs) = terms_of p ++ terms_of_as rs
  terms_of (service n s p) = n ∷ terms_of p

  pub terms_of_e : Expression → List Bytes
  terms_of_e (term x) = x ∷ []
  terms_of_e (bound v) = []
  terms_of_e (exists p) = terms_of p
  terms_of_e (apply o es) = terms_of_es es
  terms_of_e (call n es) = terms_of_es es

  pub terms_of_c : Condition → List Bytes
  terms_of_c always = []
  terms_of_c (provided e) = terms_of_e e

  pub terms_of_es : Expressions → List Bytes
  terms_of_es eend = []
  terms_of_es (econs e es) = terms_of_e e ++ terms_of_es es

  pub terms_of_os : Orders → List Bytes
  terms_of_os oend = []
  terms_of_os (ocons d e os) = terms_of_e e ++ terms_of_os os

  pub terms_of_as : Aggregates → List Bytes
  terms_of_as aend = []
  terms_of_as (agg v n d e rs) = terms_of_e e ++ terms_of_as rs
  terms_of_as (aggall v d rs) = terms_of_as rs

-- those that are IRIs
unfoldable pub iris_of : Pattern → List Bytes
unfolding keep is_iri terms_of
iris_of p = keep is_iri (terms_of p)

-- ---- other IRIs

-- what an IRI becomes; any other term as it is
unfoldable pub in_term : (Bytes → Bytes) → Bytes → Bytes
unfolding is_iri
in_term f x = cond (is_iri x) (f x) x

abbrev pub in_triple : (Bytes → Bytes) → Triple → Triple
in_triple f t = record { subj = in_term f t.subj; pred = in_term f t.pred; obj = in_term f t.obj }

unfoldable mutual
  unfolding in_term

  pub with_iris : (Bytes → Bytes) → Pattern → Pattern
  with_iris f (bgp ts) = bgp (map (in_triple f) ts)
  with_iris f (path s x o) = path (in_term f s) x (in_term f o)
  with_iris f (join p q) = join (with_iris f p) (with_iris f q)
  with_iris f (union p q) = union (with_iris f p) (with_iris f q)
  with_iris f (minus p q) = minus (with_iris f p) (with_iris f q)
  with_iris f (leftjoin p q c) = leftjoin (with_iris f p) (with_iris f q) (with_iris_c f c)
  with_iris f (filter p e) = filter (with_iris f p) (with_iris_e f e)
  with_iris f (graph n p) = graph (in_term f n) (with_iris f p)
  with_iris f (extend v p e) = extend v (with_iris f p) (with_iris_e f e)
  with_iris f (values cs rs) = values cs (map (map (in_term f)) rs)
  with_iris f (orderby p os) = orderby (with_iris f p) (with_iris_os f os)
  with_iris f (project cs p) = project cs (with_iris f p)
  with_iris f (distinct p) = distinct (with_iris f p)
  with_iris f (reduced p) = reduced (with_iris f p)
  with_iris f (slice s l p) = slice s l (with_iris f p)
  with_iris f (group ks p rs) = group ks (with_iris f p) (with_iris_as f rs)
  with_iris f (service n s p) = service (in_term f n) s (with_iris f p)

  pub with_iris_e : (Bytes → Bytes) → Expression → Expression
  with_iris_e f (term x) = term (in_term f x)
  with_iris_e f (bound v) = bound v
  with_iris_e f (exists p) = exists (with_iris f p)
  with_iris_e f (apply o es) = apply o (with_iris_es f es)
  with_iris_e f (call n es) = call n (with_iris_es f es)

  pub with_iris_c : (Bytes → Bytes) → Condition → Condition
  with_iris_c f always = always
  with_iris_c f (provided e) = provided (with_iris_e f e)

  pub with_iris_es : (Bytes → Bytes) → Expressions → Expressions
  with_iris_es f eend = eend
  with_iris_es f (econs e es) = econs (with_iris_e f e) (with_iris_es f es)

  pub with_iris_os : (Bytes → Bytes) → Orders → Orders
  with_iris_os f oend = oend
  with_iris_os f (ocons d e os) = ocons d (with_iris_e f e) (with_iris_os f os)

  pub with_iris_as : (Bytes → Bytes) → Aggregates → Aggregates
  with_iris_as f aend = aend
  with_iris_as f (agg v n d e rs) = agg v n d (with_iris_e f e) (with_iris_as f rs)
  with_iris_as f (aggall v d rs) = aggall v d (with_iris_as f rs)
