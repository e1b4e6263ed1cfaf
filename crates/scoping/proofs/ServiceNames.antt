-- The standard's set in scope is nemo's and the variables that name services. Assumes nothing.
use mathlib.Core.Path.{◌≡◌, sym, ap, ◌∙◌}
use mathlib.Core.List.{[], ◌∷◌, ◌++◌}
use mathlib.Core.Bool.{Bool, false, ◌||◌, or-false}
use Rattle.text.specs.Text.{Bytes}
use Rattle.algebra.specs.Valid.{mem}
use Rattle.algebra.specs.Tree.{Pattern, bgp, path, join, union, minus, leftjoin, filter, graph, extend, values, orderby, project, distinct, reduced, slice, group, service}
use Rattle.scoping.specs.Sets.{Alike, variables_of, triple_variables, aggregate_variables}
use Rattle.scoping.specs.Variables.{variables_in_pattern}
use Rattle.scoping.specs.InScope.{in_scope}
use Rattle.scoping.specs.bridge.ServiceNames.{service_names}
use Rattle.scoping.proofs.Sets.{mem-append}
use Rattle.scoping.proofs.Union.{Union, both, first, last}

standard : (p : Pattern) → Union (in_scope p) (variables_in_pattern p).in_scope (service_names p)
unfolding in_scope variables_in_pattern service_names
standard (bgp ts) = first (triple_variables ts)
standard (path s t o) = first (variables_of (s ∷ o ∷ []))
standard (values cs rs) = first cs
standard (join p q) = both (standard p) (standard q)
standard (leftjoin p q c) = both (standard p) (standard q)
standard (union p q) = both (standard p) (standard q)
standard (graph n p) = both (first (variables_of (n ∷ []))) (standard p)
standard (extend v p e) = both (first (v ∷ [])) (standard p)
standard (minus p q) = standard p
standard (project cs p) = first cs
standard (group ks p rs) = first (ks ++ aggregate_variables rs)
standard (orderby p os) = standard p
standard (distinct p) = standard p
standard (reduced p) = standard p
standard (slice s l p) = standard p
standard (service n s p) = both (last (variables_of (n ∷ []))) (standard p)
standard (filter p e) = standard p

-- the standard's set is nemo's and the names of services
pub in-scope-services : (p : Pattern) → Alike (in_scope p) ((variables_in_pattern p).in_scope ++ service_names p)
in-scope-services p v = (standard p).at v ∙ sym (mem-append v (variables_in_pattern p).in_scope (service_names p))

-- so a variable that is no service's name there is in the one exactly if it is in the other
pub in-scope-agrees : (p : Pattern) (v : Bytes) → mem v (service_names p) ≡ false → mem v (in_scope p) ≡ mem v (variables_in_pattern p).in_scope
in-scope-agrees p v h = (standard p).at v ∙ ap (λ (b : Bool). mem v (variables_in_pattern p).in_scope || b) h ∙ or-false (mem v (variables_in_pattern p).in_scope)
