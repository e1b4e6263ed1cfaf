-- Renaming renames both sets of a tree. Assumes nothing.
use mathlib.Core.Path.{◌≡◌, refl, sym, ap, ap₂, ◌∙◌}
use mathlib.Core.List.{List, [], ◌∷◌, ◌++◌, map}
use mathlib.Core.Bool.{Bool, true, false, cond}
use Rattle.text.specs.Text.{Bytes}
use Rattle.text.specs.Field.{is_var}
use Rattle.algebra.specs.Tree.{Triple}
use Rattle.algebra.specs.Tree.{Pattern, bgp, path, join, union, minus, leftjoin, filter, graph, extend, values, orderby, project, distinct, reduced, slice, group, service}
use Rattle.algebra.specs.Tree.{Aggregates, aend, agg, aggall}
use Rattle.scoping.specs.Sets.{keep, variables_of, triple_variables, aggregate_variables}
use Rattle.scoping.specs.Variables.{PatternVariables, variables, with_union, with_project, project_onto, variables_in_pattern}
use Rattle.scoping.specs.Rename.{rename_in_term, rename_in_triple, rename_in_graph_pattern, rename_aggregates}

-- a name is renamed to a variable if it is one
abbrev pub ToVariables : (Bytes → Bytes) → Type 0
ToVariables f = (v : Bytes) → is_var v ≡ true → is_var (f v) ≡ true

-- both sets, renamed
abbrev pub renamed_variables : (Bytes → Bytes) → PatternVariables → PatternVariables
renamed_variables f x = variables (map f x.in_scope) (map f x.hidden)

module _ (f : Bytes → Bytes) where
  map-append : (xs ys : List Bytes) → map f (xs ++ ys) ≡ map f xs ++ map f ys
  map-append [] ys = refl
  map-append (x ∷ xs) ys = ap (λ (l : List Bytes). f x ∷ l) (map-append xs ys)

  -- ---- renaming commutes with nemo's three methods

  union-renamed : (x y : PatternVariables) → with_union (renamed_variables f x) (renamed_variables f y) ≡ renamed_variables f (with_union x y)
  union-renamed x y = ap₂ variables (sym (map-append x.in_scope y.in_scope)) (sym (map-append x.hidden y.hidden))

  project-renamed : (x y : PatternVariables) → with_project (renamed_variables f x) (renamed_variables f y) ≡ renamed_variables f (with_project x y)
  project-renamed x y =
      ap (λ (l : List Bytes). variables (map f y.in_scope) (l ++ map f y.hidden)) (sym (map-append x.hidden x.in_scope))
      ∙ ap (variables (map f y.in_scope)) (sym (map-append (x.hidden ++ x.in_scope) y.hidden))

  pub aggregates-renamed : (rs : Aggregates) → aggregate_variables (rename_aggregates f rs) ≡ map f (aggregate_variables rs)
  unfolding aggregate_variables rename_aggregates
  aggregates-renamed aend = refl
  aggregates-renamed (agg v n d e rs) = ap (λ (l : List Bytes). f v ∷ l) (aggregates-renamed rs)
  aggregates-renamed (aggall v d rs) = ap (λ (l : List Bytes). f v ∷ l) (aggregates-renamed rs)

module _ (f : Bytes → Bytes) (to : ToVariables f) where
  fields_renamed : (fs : List Bytes) → variables_of (map (rename_in_term f) fs) ≡ map f (variables_of fs)
  unfolding variables_of keep rename_in_term
  fields_renamed [] = refl
  fields_renamed (x ∷ fs) = go (is_var x) refl (fields_renamed fs)
    where
      go : (t : Bool) → is_var x ≡ t → keep is_var (map (rename_in_term f) fs) ≡ map f (keep is_var fs)
          → cond (is_var (cond t (f x) x)) (cond t (f x) x ∷ keep is_var (map (rename_in_term f) fs)) (keep is_var (map (rename_in_term f) fs))
          ≡ map f (cond t (x ∷ keep is_var fs) (keep is_var fs))
      go true e r = ap (λ (b : Bool). cond b (f x ∷ keep is_var (map (rename_in_term f) fs)) (keep is_var (map (rename_in_term f) fs))) (to x e) ∙ ap (λ (l : List Bytes). f x ∷ l) r
      go false e r = ap (λ (b : Bool). cond b (x ∷ keep is_var (map (rename_in_term f) fs)) (keep is_var (map (rename_in_term f) fs))) e ∙ r

  triples-renamed : (ts : List Triple) → triple_variables (map (rename_in_triple f) ts) ≡ map f (triple_variables ts)
  unfolding triple_variables
  triples-renamed [] = refl
  triples-renamed (t ∷ ts) =
      ap₂ ◌++◌ (fields_renamed (t.subj ∷ t.pred ∷ t.obj ∷ [])) (triples-renamed ts)
      ∙ sym (map-append f (variables_of (t.subj ∷ t.pred ∷ t.obj ∷ [])) (triple_variables ts))

  -- the variables of the renamed tree are the variables, renamed
  pub variables-renamed : (p : Pattern) → variables_in_pattern (rename_in_graph_pattern f p) ≡ renamed_variables f (variables_in_pattern p)
  unfolding variables_in_pattern rename_in_graph_pattern
  variables-renamed (bgp ts) = ap (λ (l : List Bytes). variables l []) (triples-renamed ts)
  variables-renamed (path s t o) = ap (λ (l : List Bytes). variables l []) (fields_renamed (s ∷ o ∷ []))
  variables-renamed (values cs rs) = refl
  variables-renamed (join p q) = ap₂ with_union (variables-renamed p) (variables-renamed q) ∙ union-renamed f (variables_in_pattern p) (variables_in_pattern q)
  variables-renamed (leftjoin p q c) = ap₂ with_union (variables-renamed p) (variables-renamed q) ∙ union-renamed f (variables_in_pattern p) (variables_in_pattern q)
  variables-renamed (union p q) = ap₂ with_union (variables-renamed p) (variables-renamed q) ∙ union-renamed f (variables_in_pattern p) (variables_in_pattern q)
  variables-renamed (graph n p) =
      ap₂ (λ (l : List Bytes) (x : PatternVariables). variables (l ++ x.in_scope) x.hidden) (fields_renamed (n ∷ [])) (variables-renamed p)
      ∙ ap (λ (l : List Bytes). variables l (map f (variables_in_pattern p).hidden)) (sym (map-append f (variables_of (n ∷ [])) (variables_in_pattern p).in_scope))
  variables-renamed (extend v p e) = ap (λ (x : PatternVariables). variables (f v ∷ x.in_scope) x.hidden) (variables-renamed p)
  variables-renamed (minus p q) = ap₂ with_project (variables-renamed q) (variables-renamed p) ∙ project-renamed f (variables_in_pattern q) (variables_in_pattern p)
  variables-renamed (project cs p) = ap (λ (x : PatternVariables). project_onto x (map f cs)) (variables-renamed p) ∙ project-renamed f (variables_in_pattern p) (variables cs [])
  variables-renamed (group ks p rs) =
      ap₂ project_onto (variables-renamed p) (ap (λ (l : List Bytes). map f ks ++ l) (aggregates-renamed f rs) ∙ sym (map-append f ks (aggregate_variables rs)))
      ∙ project-renamed f (variables_in_pattern p) (variables (ks ++ aggregate_variables rs) [])
  variables-renamed (orderby p os) = variables-renamed p
  variables-renamed (distinct p) = variables-renamed p
  variables-renamed (reduced p) = variables-renamed p
  variables-renamed (slice s l p) = variables-renamed p
  variables-renamed (service n s p) = variables-renamed p
  variables-renamed (filter p e) = variables-renamed p
