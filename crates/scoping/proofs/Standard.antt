-- nemo's set in scope against SPARQL 1.1, section 18.2.1: it is the standard's, once every service is named by an IRI. Assumes nothing.
use mathlib.Core.Path.{◌≡◌, refl, sym, ap, ap₂, ◌∙◌}
use mathlib.Core.Bool.{Bool, true, false, cond, ◌&&◌}
use mathlib.Core.List.{List, [], ◌∷◌, ◌++◌}
use native.Mathlib.Omega.{arith}
use lib.ListN.{length, get_or}
use lib.Dec.{eqb, leb}
use borrow.Author.Tests.{ne_eqb, eqb-true}
use Rattle.text.specs.Text.{Bytes}
use Rattle.text.specs.Field.{is_var, is_iri}
use Rattle.text.proofs.Basics.{and_left, and_right}
use Rattle.algebra.specs.Tree.{Pattern, bgp, path, join, union, minus, leftjoin, filter, graph, extend, values, orderby, project, distinct, reduced, slice, group, service}
use Rattle.scoping.specs.Sets.{keep, variables_of}
use Rattle.scoping.specs.Variables.{variables_in_pattern, scope_of}
use Rattle.scoping.specs.InScope.{in_scope, services_named}

-- ---- an IRI is no variable

and_last : (a b c : Bool) → c ≡ false → (a && (b && c)) ≡ false
and_last true true c h = h
and_last true false c h = refl
and_last false b c h = refl

iri-no-variable : (f : Bytes) → is_iri f ≡ true → is_var f ≡ false
unfolding is_iri is_var
iri-no-variable f h =
    let k = eqb-true (get_or f 0 0) 60 (and_left (eqb (get_or f 0 0) 60) _ (and_right (leb 2 (length f)) _ h)) in
    and_last (leb 2 (length f)) (leb (length f) 129) (eqb (get_or f 0 0) 63) (ne_eqb (get_or f 0 0) 63 (λ e. omega arith))

named-no-variable : (i n : Bytes) → is_iri i ≡ true → is_var (cond (is_var n) i n) ≡ false
named-no-variable i n h = go (is_var n) refl
  where
    go : (t : Bool) → is_var n ≡ t → is_var (cond t i n) ≡ false
    go true e = iri-no-variable i h
    go false e = e

none_of : (f : Bytes) → is_var f ≡ false → variables_of (f ∷ []) ≡ []
unfolding variables_of keep
none_of f h = ap (λ (b : Bool). cond b (f ∷ []) []) h

-- ---- nemo's set is the standard's, whatever IRI takes the place of the services' variables

pub in-scope-standard : (i : Bytes) → is_iri i ≡ true → (p : Pattern) → scope_of p ≡ in_scope (services_named i p)
unfolding in_scope variables_in_pattern services_named
in-scope-standard i h (bgp ts) = refl
in-scope-standard i h (path s t o) = refl
in-scope-standard i h (values cs rs) = refl
in-scope-standard i h (project cs p) = refl
in-scope-standard i h (group ks p rs) = refl
in-scope-standard i h (join p q) = ap₂ ◌++◌ (in-scope-standard i h p) (in-scope-standard i h q)
in-scope-standard i h (leftjoin p q c) = ap₂ ◌++◌ (in-scope-standard i h p) (in-scope-standard i h q)
in-scope-standard i h (union p q) = ap₂ ◌++◌ (in-scope-standard i h p) (in-scope-standard i h q)
in-scope-standard i h (graph n p) = ap (λ (l : List Bytes). variables_of (n ∷ []) ++ l) (in-scope-standard i h p)
in-scope-standard i h (extend v p e) = ap (λ (l : List Bytes). v ∷ l) (in-scope-standard i h p)
in-scope-standard i h (minus p q) = in-scope-standard i h p
in-scope-standard i h (filter p e) = in-scope-standard i h p
in-scope-standard i h (orderby p os) = in-scope-standard i h p
in-scope-standard i h (distinct p) = in-scope-standard i h p
in-scope-standard i h (reduced p) = in-scope-standard i h p
in-scope-standard i h (slice s l p) = in-scope-standard i h p
in-scope-standard i h (service n s p) =
    in-scope-standard i h p
    ∙ ap (λ (l : List Bytes). l ++ in_scope (services_named i p)) (sym (none_of (cond (is_var n) i n) (named-no-variable i n h)))
