-- Erasing literals in a tree changes no variable: the numbering is the same, and renaming comes before or after. Assumes nothing.
use mathlib.Core.Path.{◌≡◌, refl, sym, ap, ap₂, ◌∙◌}
use mathlib.Core.Bool.{Bool, true, false, cond}
use mathlib.Core.List.{List, [], ◌∷◌, ◌++◌, map}
use Prim.Native.Nat.{suc}
use Rattle.text.specs.Text.{Bytes}
use Rattle.text.specs.Field.{is_var}
use Rattle.algebra.specs.Tree.{Triple, Pattern, bgp, path, join, union, minus, leftjoin, filter, graph, extend, values, orderby, project, distinct, reduced, slice, group, service, Expression, term, bound, exists, apply, call, Condition, always, provided, Expressions, eend, econs, Orders, oend, ocons, Aggregates, aend, agg, aggall}
use Rattle.algebra.specs.Valid.{mem}
use Rattle.algebra.specs.Tally.{Tally, start, notes, noted, headed, tally_triples, tally_rows, tally, tally_e, tally_c, tally_es, tally_os, tally_as}
use Rattle.scoping.specs.Sets.{keep, variables_of, triple_variables, aggregate_variables}
use Rattle.scoping.specs.Variables.{PatternVariables, variables, with_union, with_project, project_onto, variables_in_pattern}
use Rattle.scoping.specs.Numbering.{by_place, in_scope_by_place, hidden_by_place, numbered}
use Rattle.scoping.specs.Rename.{rename_in_term, rename_in_triple, rename_in_graph_pattern, rename_in_expression, rename_in_condition, rename_in_expressions, rename_in_orders, rename_aggregates}
use Rattle.laws.proofs.Erased.{erased, var-erased, var-stays, notes-erased, notes-first}
use Rattle.laws.proofs.ErasedTree.{erased_triple, erased_tree, erased_e, erased_c, erased_es, erased_os, erased_as}

module _ (may : Bytes → Bool) where
  -- ---- what is counted

  noted-erased : (fs : List Bytes) (m : Tally) → noted (map (erased may) fs) m ≡ noted fs m
  unfolding noted
  noted-erased fs m = λ i. record { lines = suc m.lines; wide = m.wide; names = notes-erased may fs m.names i }

  notes-last : (s p o : Bytes) (ns : List Bytes) → notes (s ∷ p ∷ erased may o ∷ []) ns ≡ notes (s ∷ p ∷ o ∷ []) ns
  unfolding notes
  notes-last s p o ns = notes-first may o [] (notes (s ∷ p ∷ []) ns)

  noted-triple : (t : Triple) (m : Tally) → noted (erased may t.subj ∷ t.pred ∷ erased may t.obj ∷ []) m ≡ noted (t.subj ∷ t.pred ∷ t.obj ∷ []) m
  unfolding noted
  noted-triple t m =
      let e : notes (erased may t.subj ∷ t.pred ∷ erased may t.obj ∷ []) m.names ≡ notes (t.subj ∷ t.pred ∷ t.obj ∷ []) m.names =
      notes-first may t.subj (t.pred ∷ erased may t.obj ∷ []) m.names ∙ notes-last t.subj t.pred t.obj m.names in
      λ i. record { lines = suc m.lines; wide = m.wide; names = e i }

  triples-tally : (ts : List Triple) (m : Tally) → tally_triples (map (erased_triple may) ts) m ≡ tally_triples ts m
  unfolding tally_triples
  triples-tally [] m = refl
  triples-tally (t ∷ ts) m = triples-tally ts _ ∙ ap (tally_triples ts) (noted-triple t m)

  rows-tally : (rs : List (List Bytes)) (m : Tally) → tally_rows (map (map (erased may)) rs) m ≡ tally_rows rs m
  unfolding tally_rows
  rows-tally [] m = refl
  rows-tally (r ∷ rs) m = rows-tally rs (noted [] m)

  mutual
    unfolding tally erased_tree

    pub tally-erased : (p : Pattern) (m : Tally) → tally (erased_tree may p) m ≡ tally p m
    tally-erased (bgp ts) m = triples-tally ts (noted [] m)
    tally-erased (path s x o) m = noted-erased (s ∷ o ∷ []) m
    tally-erased (join p q) m = tally-erased q _ ∙ ap (tally q) (tally-erased p (noted [] m))
    tally-erased (union p q) m = tally-erased q _ ∙ ap (tally q) (tally-erased p (noted [] m))
    tally-erased (minus p q) m = tally-erased q _ ∙ ap (tally q) (tally-erased p (noted [] m))
    tally-erased (leftjoin p q c) m = tally-erased_c c _ ∙ ap (tally_c c) (tally-erased q _ ∙ ap (tally q) (tally-erased p (noted [] m)))
    tally-erased (filter p e) m = tally-erased_e e _ ∙ ap (tally_e e) (tally-erased p (noted [] m))
    tally-erased (graph n p) m = tally-erased p (noted (n ∷ []) m)
    tally-erased (extend v p e) m = tally-erased_e e _ ∙ ap (tally_e e) (tally-erased p (noted (v ∷ []) m))
    tally-erased (values cs rs) m = rows-tally rs (noted cs (noted [] m))
    tally-erased (orderby p os) m = tally-erased_os os _ ∙ ap (tally_os os) (tally-erased p (noted [] m))
    tally-erased (project cs p) m = tally-erased p (headed cs m)
    tally-erased (distinct p) m = tally-erased p (noted [] m)
    tally-erased (reduced p) m = tally-erased p (noted [] m)
    tally-erased (slice a n p) m = tally-erased p (noted [] m)
    tally-erased (group ks p rs) m = tally-erased_as rs _ ∙ ap (tally_as rs) (tally-erased p (noted ks (noted [] m)))
    tally-erased (service n f p) m = tally-erased p (noted (n ∷ []) m)

    tally-erased_e : (e : Expression) (m : Tally) → tally_e (erased_e may e) m ≡ tally_e e m
    tally-erased_e (term x) m = noted-erased (x ∷ []) m
    tally-erased_e (bound v) m = refl
    tally-erased_e (exists p) m = tally-erased p (noted [] m)
    tally-erased_e (apply o es) m = tally-erased_es es (noted [] m)
    tally-erased_e (call n es) m = tally-erased_es es (noted [] m)

    tally-erased_c : (c : Condition) (m : Tally) → tally_c (erased_c may c) m ≡ tally_c c m
    tally-erased_c always m = refl
    tally-erased_c (provided e) m = tally-erased_e e m

    tally-erased_es : (es : Expressions) (m : Tally) → tally_es (erased_es may es) m ≡ tally_es es m
    tally-erased_es eend m = refl
    tally-erased_es (econs e es) m = tally-erased_es es _ ∙ ap (tally_es es) (tally-erased_e e m)

    tally-erased_os : (os : Orders) (m : Tally) → tally_os (erased_os may os) m ≡ tally_os os m
    tally-erased_os oend m = refl
    tally-erased_os (ocons d e os) m = tally-erased_os os _ ∙ ap (tally_os os) (tally-erased_e e (noted [] m))

    tally-erased_as : (rs : Aggregates) (m : Tally) → tally_as (erased_as may rs) m ≡ tally_as rs m
    tally-erased_as aend m = refl
    tally-erased_as (agg v n f e rs) m = tally-erased_as rs _ ∙ ap (tally_as rs) (tally-erased_e e (noted (v ∷ []) m))
    tally-erased_as (aggall v f rs) m = tally-erased_as rs (noted (v ∷ []) m)

  -- ---- the variables in scope and hidden

  variable-first : (f : Bytes) (fs : List Bytes) → variables_of (erased may f ∷ fs) ≡ variables_of (f ∷ fs)
  unfolding variables_of keep
  variable-first f fs = go (is_var f) refl
    where
      go : (t : Bool) → is_var f ≡ t → cond (is_var (erased may f)) (erased may f ∷ keep is_var fs) (keep is_var fs) ≡ cond (is_var f) (f ∷ keep is_var fs) (keep is_var fs)
      go true e = ap₂ (λ (b : Bool) (g : Bytes). cond b (g ∷ keep is_var fs) (keep is_var fs)) (var-erased may f) (var-stays may f e)
      go false e = ap (λ (b : Bool). cond b (erased may f ∷ keep is_var fs) (keep is_var fs)) (var-erased may f ∙ e) ∙ sym (ap (λ (b : Bool). cond b (f ∷ keep is_var fs) (keep is_var fs)) e)

  variable-next : (g f : Bytes) (fs : List Bytes) → variables_of (g ∷ erased may f ∷ fs) ≡ variables_of (g ∷ f ∷ fs)
  unfolding variables_of keep
  variable-next g f fs = ap (λ (l : List Bytes). cond (is_var g) (g ∷ l) l) (variable-first f fs)

  variable-third : (h g f : Bytes) (fs : List Bytes) → variables_of (h ∷ g ∷ erased may f ∷ fs) ≡ variables_of (h ∷ g ∷ f ∷ fs)
  unfolding variables_of keep
  variable-third h g f fs = ap (λ (l : List Bytes). cond (is_var h) (h ∷ l) l) (variable-next g f fs)

  triple-variables : (ts : List Triple) → triple_variables (map (erased_triple may) ts) ≡ triple_variables ts
  unfolding triple_variables
  triple-variables [] = refl
  triple-variables (t ∷ ts) = ap₂ ◌++◌ (variable-first t.subj (t.pred ∷ erased may t.obj ∷ []) ∙ variable-third t.subj t.pred t.obj []) (triple-variables ts)

  aggregate-variables : (rs : Aggregates) → aggregate_variables (erased_as may rs) ≡ aggregate_variables rs
  unfolding aggregate_variables erased_as
  aggregate-variables aend = refl
  aggregate-variables (agg v n f e rs) = ap (λ (l : List Bytes). v ∷ l) (aggregate-variables rs)
  aggregate-variables (aggall v f rs) = ap (λ (l : List Bytes). v ∷ l) (aggregate-variables rs)

  pub variables-erased : (p : Pattern) → variables_in_pattern (erased_tree may p) ≡ variables_in_pattern p
  unfolding variables_in_pattern erased_tree
  variables-erased (bgp ts) = ap (λ (l : List Bytes). variables l []) (triple-variables ts)
  variables-erased (path s x o) = ap (λ (l : List Bytes). variables l []) (variable-first s (erased may o ∷ []) ∙ variable-next s o [])
  variables-erased (join p q) = ap₂ with_union (variables-erased p) (variables-erased q)
  variables-erased (union p q) = ap₂ with_union (variables-erased p) (variables-erased q)
  variables-erased (minus p q) = ap₂ with_project (variables-erased q) (variables-erased p)
  variables-erased (leftjoin p q c) = ap₂ with_union (variables-erased p) (variables-erased q)
  variables-erased (filter p e) = variables-erased p
  variables-erased (graph n p) = ap (λ (v : PatternVariables). variables (variables_of (n ∷ []) ++ v.in_scope) v.hidden) (variables-erased p)
  variables-erased (extend v p e) = ap (λ (w : PatternVariables). variables (v ∷ w.in_scope) w.hidden) (variables-erased p)
  variables-erased (values cs rs) = refl
  variables-erased (orderby p os) = variables-erased p
  variables-erased (project cs p) = ap (λ (v : PatternVariables). project_onto v cs) (variables-erased p)
  variables-erased (distinct p) = variables-erased p
  variables-erased (reduced p) = variables-erased p
  variables-erased (slice a n p) = variables-erased p
  variables-erased (group ks p rs) = ap₂ (λ (v : PatternVariables) (l : List Bytes). project_onto v (ks ++ l)) (variables-erased p) (aggregate-variables rs)
  variables-erased (service n f p) = variables-erased p

  pub numbered-erased : (p : Pattern) → numbered (erased_tree may p) ≡ numbered p
  unfolding numbered in_scope_by_place hidden_by_place by_place
  numbered-erased p = λ i.
      keep (λ v. mem v (variables-erased p i).in_scope) (tally-erased p start i).names ++ keep (λ v. mem v (variables-erased p i).hidden) (tally-erased p start i).names

  -- ---- renaming

  -- f makes no literals of variables
  module _ (f : Bytes → Bytes) (stays : (v : Bytes) → is_var v ≡ true → erased may (f v) ≡ f v) where
    term-erased : (x : Bytes) → rename_in_term f (erased may x) ≡ erased may (rename_in_term f x)
    unfolding rename_in_term
    term-erased x = go (is_var x) refl
      where
        go : (t : Bool) → is_var x ≡ t → cond (is_var (erased may x)) (f (erased may x)) (erased may x) ≡ erased may (cond (is_var x) (f x) x)
        go true e = ap (λ (b : Bool). cond b (f (erased may x)) (erased may x)) (var-erased may x ∙ e) ∙ ap f (var-stays may x e) ∙ sym (ap (λ (b : Bool). erased may (cond b (f x) x)) e ∙ stays x e)
        go false e = ap (λ (b : Bool). cond b (f (erased may x)) (erased may x)) (var-erased may x ∙ e) ∙ sym (ap (λ (b : Bool). erased may (cond b (f x) x)) e)

    triples-erased : (ts : List Triple) → map (rename_in_triple f) (map (erased_triple may) ts) ≡ map (erased_triple may) (map (rename_in_triple f) ts)
    triples-erased [] = refl
    triples-erased (t ∷ ts) = λ i. record { subj = term-erased t.subj i; pred = rename_in_term f t.pred; obj = term-erased t.obj i } ∷ triples-erased ts i

    mutual
      unfolding rename_in_graph_pattern erased_tree

      pub rename-erased : (p : Pattern) → rename_in_graph_pattern f (erased_tree may p) ≡ erased_tree may (rename_in_graph_pattern f p)
      rename-erased (bgp ts) = ap bgp (triples-erased ts)
      rename-erased (path s t o) = λ i. path (term-erased s i) (erased may t) (term-erased o i)
      rename-erased (join p q) = ap₂ join (rename-erased p) (rename-erased q)
      rename-erased (union p q) = ap₂ union (rename-erased p) (rename-erased q)
      rename-erased (minus p q) = ap₂ minus (rename-erased p) (rename-erased q)
      rename-erased (leftjoin p q c) = λ i. leftjoin (rename-erased p i) (rename-erased q i) (rename-erased_c c i)
      rename-erased (filter p e) = ap₂ filter (rename-erased p) (rename-erased_e e)
      rename-erased (graph n p) = ap (graph (rename_in_term f n)) (rename-erased p)
      rename-erased (extend v p e) = ap₂ (extend (f v)) (rename-erased p) (rename-erased_e e)
      rename-erased (values cs rs) = refl
      rename-erased (orderby p os) = ap₂ orderby (rename-erased p) (rename-erased_os os)
      rename-erased (project cs p) = ap (project (map f cs)) (rename-erased p)
      rename-erased (distinct p) = ap distinct (rename-erased p)
      rename-erased (reduced p) = ap reduced (rename-erased p)
      rename-erased (slice s l p) = ap (slice s l) (rename-erased p)
      rename-erased (group ks p rs) = ap₂ (group (map f ks)) (rename-erased p) (rename-erased_as rs)
      rename-erased (service n s p) = ap (service n s) (rename-erased p)

      rename-erased_e : (e : Expression) → rename_in_expression f (erased_e may e) ≡ erased_e may (rename_in_expression f e)
      rename-erased_e (term x) = ap term (term-erased x)
      rename-erased_e (bound v) = refl
      rename-erased_e (exists p) = ap exists (rename-erased p)
      rename-erased_e (apply o es) = ap (apply o) (rename-erased_es es)
      rename-erased_e (call n es) = ap (call (erased may n)) (rename-erased_es es)

      rename-erased_c : (c : Condition) → rename_in_condition f (erased_c may c) ≡ erased_c may (rename_in_condition f c)
      rename-erased_c always = refl
      rename-erased_c (provided e) = ap provided (rename-erased_e e)

      rename-erased_es : (es : Expressions) → rename_in_expressions f (erased_es may es) ≡ erased_es may (rename_in_expressions f es)
      rename-erased_es eend = refl
      rename-erased_es (econs e es) = ap₂ econs (rename-erased_e e) (rename-erased_es es)

      rename-erased_os : (os : Orders) → rename_in_orders f (erased_os may os) ≡ erased_os may (rename_in_orders f os)
      rename-erased_os oend = refl
      rename-erased_os (ocons d e os) = ap₂ (ocons d) (rename-erased_e e) (rename-erased_os os)

      rename-erased_as : (rs : Aggregates) → rename_aggregates f (erased_as may rs) ≡ erased_as may (rename_aggregates f rs)
      rename-erased_as aend = refl
      rename-erased_as (agg v n d e rs) = ap₂ (agg (f v) (erased may n) d) (rename-erased_e e) (rename-erased_as rs)
      rename-erased_as (aggall v d rs) = ap (aggall (f v) d) (rename-erased_as rs)
