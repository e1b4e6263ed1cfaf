-- nemo's PatternVariables and variables_in_pattern (queries.rs): which variables of a pattern are in scope and which are hidden. Assumes nothing.
-- A HashSet is a list read as a set. Expressions and a service's name add nothing.
use Rattle.std.specs.Prelude.{List, [], ◌∷◌, ◌++◌}
use Rattle.text.specs.Text.{Bytes}
use Rattle.algebra.specs.Tree.{Pattern, bgp, path, join, union, minus, leftjoin, filter, graph, extend, values, orderby, project, distinct, reduced, slice, group, service}
use Rattle.scoping.specs.Sets.{variables_of, triple_variables, aggregate_variables}

-- PatternVariables
pub record PatternVariables : Type 0 where
  pub in_scope : List Bytes
  pub hidden : List Bytes

-- PatternVariables::new
abbrev pub variables : List Bytes → List Bytes → PatternVariables
variables i h = record { in_scope = i; hidden = h }

-- PatternVariables::union
abbrev pub with_union : PatternVariables → PatternVariables → PatternVariables
with_union self other = variables (self.in_scope ++ other.in_scope) (self.hidden ++ other.hidden)

-- PatternVariables::project: what was in scope is hidden, then the union
abbrev pub with_project : PatternVariables → PatternVariables → PatternVariables
with_project self other = with_union (variables [] (self.hidden ++ self.in_scope)) other

-- PatternVariables::project_onto
abbrev pub project_onto : PatternVariables → List Bytes → PatternVariables
project_onto self cs = with_project self (variables cs [])

-- variables_in_pattern
unfoldable pub variables_in_pattern : Pattern → PatternVariables
unfolding variables_of triple_variables aggregate_variables
variables_in_pattern (bgp ts) = variables (triple_variables ts) []
variables_in_pattern (path s t o) = variables (variables_of (s ∷ o ∷ [])) []
variables_in_pattern (values cs rs) = variables cs []
variables_in_pattern (join p q) = with_union (variables_in_pattern p) (variables_in_pattern q)
variables_in_pattern (leftjoin p q c) = with_union (variables_in_pattern p) (variables_in_pattern q)
variables_in_pattern (union p q) = with_union (variables_in_pattern p) (variables_in_pattern q)
variables_in_pattern (graph n p) = variables (variables_of (n ∷ []) ++ (variables_in_pattern p).in_scope) (variables_in_pattern p).hidden
variables_in_pattern (extend v p e) = variables (v ∷ (variables_in_pattern p).in_scope) (variables_in_pattern p).hidden
variables_in_pattern (minus p q) = with_project (variables_in_pattern q) (variables_in_pattern p)
variables_in_pattern (project cs p) = project_onto (variables_in_pattern p) cs
variables_in_pattern (group ks p rs) = project_onto (variables_in_pattern p) (ks ++ aggregate_variables rs)
variables_in_pattern (orderby p os) = variables_in_pattern p
variables_in_pattern (distinct p) = variables_in_pattern p
variables_in_pattern (reduced p) = variables_in_pattern p
variables_in_pattern (slice s l p) = variables_in_pattern p
variables_in_pattern (service n s p) = variables_in_pattern p
variables_in_pattern (filter p e) = variables_in_pattern p

-- the variables in scope: those that the pattern's rows can bind
abbrev pub scope_of : Pattern → List Bytes
scope_of p = (variables_in_pattern p).in_scope
