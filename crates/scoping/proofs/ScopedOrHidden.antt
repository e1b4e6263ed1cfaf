-- The names in scope or hidden are those that are numbered. Assumes nothing.
use mathlib.Core.Path.{◌≡◌, sym, ◌∙◌}
use mathlib.Core.List.{[], ◌∷◌, ◌++◌}
use mathlib.Core.Bool.{◌||◌}
use Rattle.text.specs.Text.{Bytes}
use Rattle.algebra.specs.Valid.{mem, Valid}
use Rattle.algebra.specs.Tree.{Pattern, bgp, path, join, union, minus, leftjoin, filter, graph, extend, values, orderby, project, distinct, reduced, slice, group, service}
use Rattle.algebra.specs.Tree.{always, provided}
use Rattle.scoping.specs.Sets.{Alike, variables_of, triple_variables, aggregate_variables}
use Rattle.scoping.specs.Variables.{variables_in_pattern}
use Rattle.scoping.specs.ScopedOrHidden.{condition_vars, names_with, scoped_or_hidden}
use Rattle.scoping.specs.Numbering.{numbered}
use Rattle.scoping.proofs.Union.{Union, both, first, nil_end, beneath, beside}
use Rattle.scoping.proofs.Numbered.{numbered-mem}

parts : (p : Pattern) → Union (scoped_or_hidden p) (variables_in_pattern p).in_scope (variables_in_pattern p).hidden
unfolding names_with condition_vars variables_in_pattern
parts (bgp ts) = first (triple_variables ts)
parts (path s t o) = first (variables_of (s ∷ o ∷ []))
parts (values cs rs) = first cs
parts (join p q) = both (parts p) (parts q)
parts (leftjoin p q always) = nil_end (both (parts p) (parts q))
parts (leftjoin p q (provided e)) = nil_end (both (parts p) (parts q))
parts (union p q) = both (parts p) (parts q)
parts (graph n p) = both (first (variables_of (n ∷ []))) (parts p)
parts (extend v p e) = both (first (v ∷ [])) (nil_end (parts p))
parts (minus p q) = beside (parts p) (parts q)
parts (project cs p) = beneath cs (parts p)
parts (group ks p rs) = beneath (ks ++ aggregate_variables rs) (parts p)
parts (orderby p os) = parts p
parts (distinct p) = parts p
parts (reduced p) = parts p
parts (slice s l p) = parts p
parts (service n s p) = parts p
parts (filter p e) = nil_end (parts p)

-- in scope or hidden is in nemo's one set or in the other
pub scoped-or-hidden : (p : Pattern) (v : Bytes) → mem v (scoped_or_hidden p) ≡ (mem v (variables_in_pattern p).in_scope || mem v (variables_in_pattern p).hidden)
scoped-or-hidden p = (parts p).at

pub numbered-scoped : (p : Pattern) → Valid p → Alike (numbered p) (scoped_or_hidden p)
numbered-scoped p w v = numbered-mem p w v ∙ sym (scoped-or-hidden p v)
