-- A tree with other IRIs: its terms are those of the tree, the IRIs replaced; and it is well formed where each IRI becomes one. Assumes nothing.
use Prim.Native.Nat.{ℕ, ◌≤◌}
use mathlib.Core.Path.{◌≡◌, refl, sym, ap, ap₂, subst, ◌∙◌}
use mathlib.Core.Bool.{Bool, true, false, cond, ◌&&◌, ◌||◌}
use mathlib.Core.List.{List, [], ◌∷◌, ◌++◌, map, map-append}
use lib.ListN.{length, length-map}
use Rattle.text.specs.Text.{Bytes}
use Rattle.text.specs.Field.{most, Kind, node, plain, name, cell, clean, is_var, is_iri, is_kind, fits, all_fit}
use Rattle.text.proofs.Basics.{and_left, and_right, and_both}
use Rattle.algebra.specs.Tree.{Triple, Pattern, bgp, path, join, union, minus, leftjoin, filter, graph, extend, values, orderby, project, distinct, reduced, slice, group, service, Expression, term, bound, exists, apply, call, Condition, always, provided, Expressions, eend, econs, Orders, oend, ocons, Aggregates, aend, agg, aggall}
use Rattle.algebra.specs.Word.{arity}
use Rattle.algebra.specs.Valid.{AllFit, Triples, Rows, Takes, Valid, ValidE, ValidC, ValidEs, ValidOs, ValidAs}
use Rattle.converting.specs.Terms.{triple_terms, cell_terms, terms_of, terms_of_e, terms_of_c, terms_of_es, terms_of_os, terms_of_as, in_term, in_triple, with_iris, with_iris_e, with_iris_c, with_iris_es, with_iris_os, with_iris_as}
use Rattle.converting.proofs.Lines.{count_same, ocount-same, acount-same}

-- ---- the terms

module _ (f : Bytes → Bytes) where
  triple-terms : (ts : List Triple) → triple_terms (map (in_triple f) ts) ≡ map (in_term f) (triple_terms ts)
  unfolding triple_terms
  triple-terms [] = refl
  triple-terms (x ∷ xs) = ap (λ (l : List Bytes). in_term f x.subj ∷ in_term f x.pred ∷ in_term f x.obj ∷ l) (triple-terms xs)

  cell-terms : (rs : List (List Bytes)) → cell_terms (map (map (in_term f)) rs) ≡ map (in_term f) (cell_terms rs)
  unfolding cell_terms
  cell-terms [] = refl
  cell-terms (r ∷ rs) = ap (λ (l : List Bytes). map (in_term f) r ++ l) (cell-terms rs) ∙ sym (map-append (in_term f) r (cell_terms rs))

  both : (a b k m : List Bytes) → k ≡ map (in_term f) a → m ≡ map (in_term f) b → k ++ m ≡ map (in_term f) (a ++ b)
  both a b k m p q = ap₂ (λ (x y : List Bytes). x ++ y) p q ∙ sym (map-append (in_term f) a b)

  mutual
    unfolding terms_of with_iris

    -- term by term: an IRI becomes what f says, any other term stays
    pub terms-with-iris : (p : Pattern) → terms_of (with_iris f p) ≡ map (in_term f) (terms_of p)
    terms-with-iris (bgp ts) = triple-terms ts
    terms-with-iris (path s x o) = refl
    terms-with-iris (join p q) = both (terms_of p) (terms_of q) _ _ (terms-with-iris p) (terms-with-iris q)
    terms-with-iris (union p q) = both (terms_of p) (terms_of q) _ _ (terms-with-iris p) (terms-with-iris q)
    terms-with-iris (minus p q) = both (terms_of p) (terms_of q) _ _ (terms-with-iris p) (terms-with-iris q)
    terms-with-iris (leftjoin p q c) = both (terms_of p) (terms_of q ++ terms_of_c c) _ _ (terms-with-iris p) (both (terms_of q) (terms_of_c c) _ _ (terms-with-iris q) (terms-with-iris_c c))
    terms-with-iris (filter p e) = both (terms_of p) (terms_of_e e) _ _ (terms-with-iris p) (terms-with-iris_e e)
    terms-with-iris (graph n p) = ap (λ (l : List Bytes). in_term f n ∷ l) (terms-with-iris p)
    terms-with-iris (extend v p e) = both (terms_of p) (terms_of_e e) _ _ (terms-with-iris p) (terms-with-iris_e e)
    terms-with-iris (values cs rs) = cell-terms rs
    terms-with-iris (orderby p os) = both (terms_of p) (terms_of_os os) _ _ (terms-with-iris p) (terms-with-iris_os os)
    terms-with-iris (project cs p) = terms-with-iris p
    terms-with-iris (distinct p) = terms-with-iris p
    terms-with-iris (reduced p) = terms-with-iris p
    terms-with-iris (slice s l p) = terms-with-iris p
    terms-with-iris (group ks p rs) = both (terms_of p) (terms_of_as rs) _ _ (terms-with-iris p) (terms-with-iris_as rs)
    terms-with-iris (service n s p) = ap (λ (l : List Bytes). in_term f n ∷ l) (terms-with-iris p)

    terms-with-iris_e : (e : Expression) → terms_of_e (with_iris_e f e) ≡ map (in_term f) (terms_of_e e)
    terms-with-iris_e (term x) = refl
    terms-with-iris_e (bound v) = refl
    terms-with-iris_e (exists p) = terms-with-iris p
    terms-with-iris_e (apply o es) = terms-with-iris_es es
    terms-with-iris_e (call n es) = terms-with-iris_es es

    terms-with-iris_c : (c : Condition) → terms_of_c (with_iris_c f c) ≡ map (in_term f) (terms_of_c c)
    terms-with-iris_c always = refl
    terms-with-iris_c (provided e) = terms-with-iris_e e

    terms-with-iris_es : (es : Expressions) → terms_of_es (with_iris_es f es) ≡ map (in_term f) (terms_of_es es)
    terms-with-iris_es eend = refl
    terms-with-iris_es (econs e es) = both (terms_of_e e) (terms_of_es es) _ _ (terms-with-iris_e e) (terms-with-iris_es es)

    terms-with-iris_os : (os : Orders) → terms_of_os (with_iris_os f os) ≡ map (in_term f) (terms_of_os os)
    terms-with-iris_os oend = refl
    terms-with-iris_os (ocons d e os) = both (terms_of_e e) (terms_of_os os) _ _ (terms-with-iris_e e) (terms-with-iris_os os)

    terms-with-iris_as : (rs : Aggregates) → terms_of_as (with_iris_as f rs) ≡ map (in_term f) (terms_of_as rs)
    terms-with-iris_as aend = refl
    terms-with-iris_as (agg v n d e rs) = both (terms_of_e e) (terms_of_as rs) _ _ (terms-with-iris_e e) (terms-with-iris_as rs)
    terms-with-iris_as (aggall v d rs) = terms-with-iris_as rs

-- ---- well formed

-- a clean IRI becomes a clean IRI
abbrev pub Iri : Bytes → Type 0
Iri x = (clean x ≡ true) × (is_iri x ≡ true)

abbrev pub Keeps : (Bytes → Bytes) → Type 0
Keeps f = (x : Bytes) → Iri x → Iri (f x)

or-true : (a : Bool) → (a || true) ≡ true
or-true true = refl
or-true false = refl

-- the kinds of fields that an IRI fits
data TakesIri : Kind → Type 0 where
  in_node : TakesIri node
  in_plain : TakesIri plain
  in_name : TakesIri name
  in_cell : TakesIri cell

iri-kind : {k : Kind} → TakesIri k → (x : Bytes) → is_iri x ≡ true → is_kind k x ≡ true
unfolding is_kind
iri-kind in_node x h = rw (h, or-true (is_var x)) refl
iri-kind in_plain x h = rw (h, or-true (is_var x)) refl
iri-kind in_name x h = rw h refl
iri-kind in_cell x h = rw h refl

module _ (f : Bytes → Bytes) (good : Keeps f) where
  term_fits : (k : Kind) → TakesIri k → (x : Bytes) → fits k x ≡ true → fits k (in_term f x) ≡ true
  unfolding fits in_term
  term_fits k t x h = go (is_iri x) refl
    where
      go : (b : Bool) → is_iri x ≡ b → (clean (cond b (f x) x) && is_kind k (cond b (f x) x)) ≡ true
      go true e = let y = good x (and_left (clean x) (is_kind k x) h, e) in and_both (clean (f x)) (is_kind k (f x)) y.0 (iri-kind t (f x) y.1)
      go false e = h

  triples-valid : (ts : List Triple) → Triples ts → Triples (map (in_triple f) ts)
  unfolding Triples
  triples-valid [] v = tt
  triples-valid (x ∷ xs) v = (term_fits node in_node x.subj v.0, term_fits name in_name x.pred v.1, term_fits node in_node x.obj v.2, triples-valid xs v.3)

  cells_fit : (r : List Bytes) → AllFit cell r → AllFit cell (map (in_term f) r)
  unfolding all_fit
  cells_fit [] v = refl
  cells_fit (x ∷ xs) v = and_both (fits cell (in_term f x)) (all_fit cell (map (in_term f) xs)) (term_fits cell in_cell x (and_left (fits cell x) (all_fit cell xs) v)) (cells_fit xs (and_right (fits cell x) (all_fit cell xs) v))

  rows-valid : (m : ℕ) (rs : List (List Bytes)) → Rows m rs → Rows m (map (map (in_term f)) rs)
  unfolding Rows
  rows-valid m [] v = tt
  rows-valid m (r ∷ rs) v = (length-map r (in_term f) ∙ v.0, cells_fit r v.1, rows-valid m rs v.2)

  mutual
    unfolding Valid with_iris

    pub with-iris-valid : (p : Pattern) → Valid p → Valid (with_iris f p)
    with-iris-valid (bgp ts) v = (subst (λ (n : ℕ). n ≤ most) (sym (length-map ts (in_triple f))) v.0, triples-valid ts v.1)
    with-iris-valid (path s x o) v = (term_fits node in_node s v.0, v.1, term_fits node in_node o v.2)
    with-iris-valid (join p q) v = (with-iris-valid p v.0, with-iris-valid q v.1)
    with-iris-valid (union p q) v = (with-iris-valid p v.0, with-iris-valid q v.1)
    with-iris-valid (minus p q) v = (with-iris-valid p v.0, with-iris-valid q v.1)
    with-iris-valid (leftjoin p q c) v = (with-iris-valid p v.0, with-iris-valid q v.1, with-iris-valid_c c v.2)
    with-iris-valid (filter p e) v = (with-iris-valid p v.0, with-iris-valid_e e v.1)
    with-iris-valid (graph n p) v = (term_fits name in_name n v.0, with-iris-valid p v.1)
    with-iris-valid (extend x p e) v = (v.0, with-iris-valid p v.1, with-iris-valid_e e v.2)
    with-iris-valid (values cs rs) v = (v.0, subst (λ (n : ℕ). n ≤ most) (sym (length-map rs (map (in_term f)))) v.1, v.2, rows-valid (length cs) rs v.3)
    with-iris-valid (orderby p os) v = (subst (λ (n : ℕ). n ≤ most) (sym (ocount-same f os)) v.0, with-iris-valid p v.1, with-iris-valid_os os v.2)
    with-iris-valid (project cs p) v = (v.0, with-iris-valid p v.1)
    with-iris-valid (distinct p) v = with-iris-valid p v
    with-iris-valid (reduced p) v = with-iris-valid p v
    with-iris-valid (slice a n p) v = (v.0, v.1, with-iris-valid p v.2)
    with-iris-valid (group ks p rs) v = (v.0, subst (λ (n : ℕ). n ≤ most) (sym (acount-same f rs)) v.1, v.2, with-iris-valid p v.3, with-iris-valid_as rs v.4)
    with-iris-valid (service n s p) v = (term_fits name in_name n v.0, v.1, with-iris-valid p v.2)

    with-iris-valid_e : (e : Expression) → ValidE e → ValidE (with_iris_e f e)
    with-iris-valid_e (term x) v = term_fits plain in_plain x v
    with-iris-valid_e (bound x) v = v
    with-iris-valid_e (exists p) v = with-iris-valid p v
    with-iris-valid_e (apply o es) v = (subst (Takes (arity o)) (sym (count_same f es)) v.0, with-iris-valid_es es v.1)
    with-iris-valid_e (call n es) v = (v.0, subst (λ (k : ℕ). k ≤ most) (sym (count_same f es)) v.1, with-iris-valid_es es v.2)

    with-iris-valid_c : (c : Condition) → ValidC c → ValidC (with_iris_c f c)
    with-iris-valid_c always v = tt
    with-iris-valid_c (provided e) v = with-iris-valid_e e v

    with-iris-valid_es : (es : Expressions) → ValidEs es → ValidEs (with_iris_es f es)
    with-iris-valid_es eend v = tt
    with-iris-valid_es (econs e es) v = (with-iris-valid_e e v.0, with-iris-valid_es es v.1)

    with-iris-valid_os : (os : Orders) → ValidOs os → ValidOs (with_iris_os f os)
    with-iris-valid_os oend v = tt
    with-iris-valid_os (ocons d e os) v = (with-iris-valid_e e v.0, with-iris-valid_os os v.1)

    with-iris-valid_as : (rs : Aggregates) → ValidAs rs → ValidAs (with_iris_as f rs)
    with-iris-valid_as aend v = tt
    with-iris-valid_as (agg x n d e rs) v = (v.0, v.1, v.2, with-iris-valid_e e v.3, with-iris-valid_as rs v.4)
    with-iris-valid_as (aggall x d rs) v = (v.0, v.1, with-iris-valid_as rs v.2)
