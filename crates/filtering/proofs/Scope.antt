-- Filters leave both sets of a tree as they were; bindings leave the set in scope and add the bound columns to the hidden one. Assumes nothing.
use mathlib.Core.Path.{◌≡◌, refl, sym, ap, ap₂, ◌∙◌}
use mathlib.Core.Bool.{Bool, true, false, ◌&&◌, ◌||◌, or_assoc, or_comm}
use mathlib.Core.List.{List, [], ◌∷◌, ◌++◌, append-nil, append_assoc}
use mathlib.Core.Option.{Option, none, some}
use Rattle.text.specs.Text.{Bytes, same}
use Rattle.algebra.specs.Tree.{Pattern, join, Expression}
use Rattle.algebra.specs.Query.{BindingSet, Filter}
use Rattle.algebra.specs.Valid.{mem}
use Rattle.scoping.specs.Sets.{Alike, aggregate_variables, all, each}
use Rattle.scoping.specs.Variables.{PatternVariables, project_onto, variables_in_pattern}
use Rattle.scoping.proofs.Sets.{mem-append}
use Rattle.merging.specs.Request.{Projection}
use Rattle.merging.specs.Negate.{modify_outermost_projection}
use Rattle.negating.specs.Projections.{outermost_projection}
use Rattle.negating.proofs.Found.{Outermost, here, under-distinct, under-reduced, under-slice, under_orderby, under_group, found, not_found}
use Rattle.filtering.specs.Bindings.{bound_variables, values_of, joined_with_values, pattern_with_bindings}
use Rattle.filtering.specs.Filters.{expressions, filtered, pattern_with_filters}

-- ---- filters: nothing moves

-- what keeps the variables of every pattern keeps those of the whole tree
module _ (f : List Bytes → Pattern → Pattern) (keeps : (cs : List Bytes) (q : Pattern) → variables_in_pattern (f cs q) ≡ variables_in_pattern q) where
  found_scope : {p : Pattern} {x : Projection} → Outermost p x → variables_in_pattern (modify_outermost_projection f p) ≡ variables_in_pattern p
  unfolding modify_outermost_projection variables_in_pattern
  found_scope (here {cs} {p}) = ap (λ (s : PatternVariables). project_onto s cs) (keeps cs p)
  found_scope (under-distinct o) = found_scope o
  found_scope (under-reduced o) = found_scope o
  found_scope (under-slice o) = found_scope o
  found_scope (under_orderby o) = found_scope o
  found_scope (under_group {ks} {p} {rs} o) = ap (λ (s : PatternVariables). project_onto s (ks ++ aggregate_variables rs)) (found_scope o)

  modified-scope : (p : Pattern) → variables_in_pattern (modify_outermost_projection f p) ≡ variables_in_pattern p
  modified-scope p = go (outermost_projection p) refl
    where
      go : (o : Option Projection) → outermost_projection p ≡ o → variables_in_pattern (modify_outermost_projection f p) ≡ variables_in_pattern p
      go none e = ap variables_in_pattern (not_found f p e)
      go (some x) e = found_scope (found p x e)

filtered-scope : (es : List Expression) (q : Pattern) → variables_in_pattern (filtered es q) ≡ variables_in_pattern q
unfolding filtered variables_in_pattern
filtered-scope [] q = refl
filtered-scope (e ∷ es) q = refl

-- the variables in scope and the hidden ones are the tree's own, in the same order even
pub filters-scope : (p : Pattern) (fs : List Filter) → variables_in_pattern (pattern_with_filters p fs).pattern ≡ variables_in_pattern p
unfolding pattern_with_filters
filters-scope p fs = modified-scope (λ cs inner. filtered (expressions cs fs) inner) (λ cs q. filtered-scope (expressions cs fs) q) p

-- ---- bindings: the columns bound are hidden below the projection, and all else stays

-- the columns that the sets bind
abbrev pub bound_columns : List Bytes → List BindingSet → List Bytes
bound_columns cs xs = each (bound_variables cs) xs

-- these are in scope besides
record More (s t : PatternVariables) (vs : List Bytes) : Type 0 where
  in_scope : Alike t.in_scope (s.in_scope ++ vs)
  hidden : Alike t.hidden s.hidden

-- these are hidden besides
pub record Hides (s t : PatternVariables) (vs : List Bytes) : Type 0 where
  pub in_scope : Alike t.in_scope s.in_scope
  pub hidden : Alike t.hidden (s.hidden ++ vs)

more-none : (s : PatternVariables) → More s s []
more-none s = record { in_scope = λ v. ap (mem v) (sym (append-nil s.in_scope)); hidden = λ v. refl }

in-join : (cs : List Bytes) (q : Pattern) (x : BindingSet) → (variables_in_pattern (join q (values_of cs x))).in_scope ≡ (variables_in_pattern q).in_scope ++ bound_variables cs x
unfolding variables_in_pattern values_of
in-join cs q x = refl

hidden-join : (cs : List Bytes) (q : Pattern) (x : BindingSet) → (variables_in_pattern (join q (values_of cs x))).hidden ≡ (variables_in_pattern q).hidden
unfolding variables_in_pattern values_of
hidden-join cs q x = append-nil (variables_in_pattern q).hidden

joined-scope : (cs : List Bytes) (q : Pattern) (xs : List BindingSet) → More (variables_in_pattern q) (variables_in_pattern (joined_with_values cs q xs)) (bound_columns cs xs)
unfolding joined_with_values each
joined-scope cs q [] = more-none (variables_in_pattern q)
joined-scope cs q (x ∷ xs) =
    let r = joined-scope cs (join q (values_of cs x)) xs in
    record {
      in_scope = λ v. r.in_scope v ∙ ap (λ (l : List Bytes). mem v (l ++ bound_columns cs xs)) (in-join cs q x) ∙ ap (mem v) (append_assoc (variables_in_pattern q).in_scope (bound_variables cs x) (bound_columns cs xs));
      hidden = λ v. r.hidden v ∙ ap (mem v) (hidden-join cs q x);
    }

-- projected onto columns, what was in scope besides is hidden besides
or-here : (h i w : Bool) → (h || (i || w)) ≡ ((h || i) || w)
or-here h i w = sym (or_assoc h i w)

or-group : (h i w : Bool) → ((h || w) || i) ≡ ((h || i) || w)
or-group true i w = refl
or-group false i w = or_comm w i

projected-hidden : (s : PatternVariables) (cs : List Bytes) (v : Bytes) → mem v (project_onto s cs).hidden ≡ (mem v s.hidden || mem v s.in_scope)
projected-hidden s cs v = ap (mem v) (append-nil (s.hidden ++ s.in_scope)) ∙ mem-append v s.hidden s.in_scope

more-projected : (s t : PatternVariables) (cs vs : List Bytes) → More s t vs → Hides (project_onto s cs) (project_onto t cs) vs
more-projected s t cs vs m = record {
  in_scope = λ v. refl;
  hidden = λ v.
      projected-hidden t cs v
      ∙ ap₂ ◌||◌ (m.hidden v) (m.in_scope v ∙ mem-append v s.in_scope vs)
      ∙ or-here (mem v s.hidden) (mem v s.in_scope) (mem v vs)
      ∙ ap (λ (b : Bool). b || mem v vs) (sym (projected-hidden s cs v))
      ∙ sym (mem-append v (project_onto s cs).hidden vs);
}

hides-projected : (s t : PatternVariables) (cs vs : List Bytes) → Hides s t vs → Hides (project_onto s cs) (project_onto t cs) vs
hides-projected s t cs vs m = record {
  in_scope = λ v. refl;
  hidden = λ v.
      projected-hidden t cs v
      ∙ ap₂ ◌||◌ (m.hidden v ∙ mem-append v s.hidden vs) (m.in_scope v)
      ∙ or-group (mem v s.hidden) (mem v s.in_scope) (mem v vs)
      ∙ ap (λ (b : Bool). b || mem v vs) (sym (projected-hidden s cs v))
      ∙ sym (mem-append v (project_onto s cs).hidden vs);
}

found-hides : (xs : List BindingSet) {p : Pattern} {x : Projection} → Outermost p x
    → Hides (variables_in_pattern p) (variables_in_pattern (modify_outermost_projection (λ cs inner. joined_with_values cs inner xs) p)) (bound_columns x.columns xs)
unfolding modify_outermost_projection variables_in_pattern
found-hides xs (here {cs} {p}) = more-projected (variables_in_pattern p) (variables_in_pattern (joined_with_values cs p xs)) cs (bound_columns cs xs) (joined-scope cs p xs)
found-hides xs (under-distinct o) = found-hides xs o
found-hides xs (under-reduced o) = found-hides xs o
found-hides xs (under-slice o) = found-hides xs o
found-hides xs (under_orderby o) = found-hides xs o
found-hides xs (under_group {ks} {p} {rs} {x} o) = hides-projected (variables_in_pattern p) _ (ks ++ aggregate_variables rs) (bound_columns x.columns xs) (found-hides xs o)

-- in scope is what was in scope; hidden is what was hidden, and the bound columns
pub bindings-scope : (p : Pattern) (xs : List BindingSet) (x : Projection) → outermost_projection p ≡ some x → Hides (variables_in_pattern p) (variables_in_pattern (pattern_with_bindings p xs)) (bound_columns x.columns xs)
unfolding pattern_with_bindings each
bindings-scope p [] x e = record { in_scope = λ v. refl; hidden = λ v. ap (mem v) (sym (append-nil (variables_in_pattern p).hidden)) }
bindings-scope p (y ∷ xs) x e = found-hides (y ∷ xs) (found p x e)

-- so nothing moves where the bound columns are variables below the projection
pub bindings-scope-same : (p : Pattern) (xs : List BindingSet) (x : Projection) → outermost_projection p ≡ some x
    → ((v : Bytes) → mem v (bound_columns x.columns xs) ≡ true → mem v (variables_in_pattern p).hidden ≡ true)
    → Alike (variables_in_pattern (pattern_with_bindings p xs)).hidden (variables_in_pattern p).hidden
bindings-scope-same p xs x e h v = (bindings-scope p xs x e).hidden v ∙ mem-append v (variables_in_pattern p).hidden (bound_columns x.columns xs) ∙ go (mem v (variables_in_pattern p).hidden) refl (mem v (bound_columns x.columns xs)) refl
  where
    go : (a : Bool) → mem v (variables_in_pattern p).hidden ≡ a → (b : Bool) → mem v (bound_columns x.columns xs) ≡ b → (a || b) ≡ a
    go true i b j = refl
    go false i true j = sym (h v j) ∙ i
    go false i false j = refl
