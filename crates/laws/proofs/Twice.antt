-- A tree renamed twice is the tree renamed once, by both. Assumes nothing.
use mathlib.Core.Path.{◌≡◌, refl, ap, ap₂}
use mathlib.Core.Bool.{Bool, true, false, cond}
use mathlib.Core.List.{List, [], ◌∷◌, map}
use Rattle.text.specs.Text.{Bytes}
use Rattle.text.specs.Field.{is_var}
use Rattle.algebra.specs.Tree.{Triple, Pattern, bgp, path, join, union, minus, leftjoin, filter, graph, extend, values, orderby, project, distinct, reduced, slice, group, service, Expression, term, bound, exists, apply, call, Condition, always, provided, Expressions, eend, econs, Orders, oend, ocons, Aggregates, aend, agg, aggall}
use Rattle.scoping.specs.Rename.{rename_in_term, rename_in_triple, rename_in_graph_pattern, rename_in_expression, rename_in_condition, rename_in_expressions, rename_in_orders, rename_aggregates}
use Rattle.scoping.proofs.Basics.{map-map}

-- f makes variables of variables
module _ (f g : Bytes → Bytes) (to : (v : Bytes) → is_var v ≡ true → is_var (f v) ≡ true) where
  abbrev both : Bytes → Bytes
  both v = g (f v)

  term-twice : (x : Bytes) → rename_in_term g (rename_in_term f x) ≡ rename_in_term both x
  unfolding rename_in_term
  term-twice x = go (is_var x) refl
    where
      go : (t : Bool) → is_var x ≡ t → cond (is_var (cond t (f x) x)) (g (cond t (f x) x)) (cond t (f x) x) ≡ cond t (g (f x)) x
      go true e = ap (λ (b : Bool). cond b (g (f x)) (f x)) (to x e)
      go false e = ap (λ (b : Bool). cond b (g x) x) e

  triples-twice : (ts : List Triple) → map (rename_in_triple g) (map (rename_in_triple f) ts) ≡ map (rename_in_triple both) ts
  triples-twice [] = refl
  triples-twice (t ∷ ts) = λ i. record { subj = term-twice t.subj i; pred = term-twice t.pred i; obj = term-twice t.obj i } ∷ triples-twice ts i

  names-twice : (cs : List Bytes) → map g (map f cs) ≡ map both cs
  names-twice cs = map-map g f cs

  mutual
    unfolding rename_in_graph_pattern

    pub tree-twice : (p : Pattern) → rename_in_graph_pattern g (rename_in_graph_pattern f p) ≡ rename_in_graph_pattern both p
    tree-twice (bgp ts) = ap bgp (triples-twice ts)
    tree-twice (path s t o) = λ i. path (term-twice s i) t (term-twice o i)
    tree-twice (join p q) = ap₂ join (tree-twice p) (tree-twice q)
    tree-twice (union p q) = ap₂ union (tree-twice p) (tree-twice q)
    tree-twice (minus p q) = ap₂ minus (tree-twice p) (tree-twice q)
    tree-twice (leftjoin p q c) = λ i. leftjoin (tree-twice p i) (tree-twice q i) (condition-twice c i)
    tree-twice (filter p e) = ap₂ filter (tree-twice p) (expression-twice e)
    tree-twice (graph n p) = ap₂ graph (term-twice n) (tree-twice p)
    tree-twice (extend v p e) = ap₂ (extend (both v)) (tree-twice p) (expression-twice e)
    tree-twice (values cs rs) = ap (λ (l : List Bytes). values l rs) (names-twice cs)
    tree-twice (orderby p os) = ap₂ orderby (tree-twice p) (orders-twice os)
    tree-twice (project cs p) = ap₂ project (names-twice cs) (tree-twice p)
    tree-twice (distinct p) = ap distinct (tree-twice p)
    tree-twice (reduced p) = ap reduced (tree-twice p)
    tree-twice (slice s l p) = ap (slice s l) (tree-twice p)
    tree-twice (group ks p rs) = λ i. group (names-twice ks i) (tree-twice p i) (aggregates-twice rs i)
    tree-twice (service n s p) = ap (service n s) (tree-twice p)

    expression-twice : (e : Expression) → rename_in_expression g (rename_in_expression f e) ≡ rename_in_expression both e
    expression-twice (term x) = ap term (term-twice x)
    expression-twice (bound v) = refl
    expression-twice (exists p) = ap exists (tree-twice p)
    expression-twice (apply o es) = ap (apply o) (expressions-twice es)
    expression-twice (call n es) = ap (call n) (expressions-twice es)

    condition-twice : (c : Condition) → rename_in_condition g (rename_in_condition f c) ≡ rename_in_condition both c
    condition-twice always = refl
    condition-twice (provided e) = ap provided (expression-twice e)

    expressions-twice : (es : Expressions) → rename_in_expressions g (rename_in_expressions f es) ≡ rename_in_expressions both es
    expressions-twice eend = refl
    expressions-twice (econs e es) = ap₂ econs (expression-twice e) (expressions-twice es)

    orders-twice : (os : Orders) → rename_in_orders g (rename_in_orders f os) ≡ rename_in_orders both os
    orders-twice oend = refl
    orders-twice (ocons d e os) = ap₂ (ocons d) (expression-twice e) (orders-twice os)

    aggregates-twice : (rs : Aggregates) → rename_aggregates g (rename_aggregates f rs) ≡ rename_aggregates both rs
    aggregates-twice aend = refl
    aggregates-twice (agg v n d e rs) = ap₂ (agg (both v) n d) (expression-twice e) (aggregates-twice rs)
    aggregates-twice (aggall v d rs) = ap (aggall (both v) d) (aggregates-twice rs)
