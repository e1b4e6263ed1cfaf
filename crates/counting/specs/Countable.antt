-- Which trees belong to the counting part, and what is supposed of them: docs/SPECIFICATION.md, "Counting part", and "Demand 3". Assumes nothing.
use Rattle.std.specs.Prelude.{Bool, true, false, not, ◌&&◌, List, ℕ, eqb}
use Rattle.text.specs.Text.{Bytes, same}
use Rattle.text.specs.Field.{is_blank}
use Rattle.algebra.specs.Tree.{Triple, Pattern, bgp, path, join, union, minus, leftjoin, filter, graph, extend, values, orderby, project, distinct, reduced, slice, group, service}
use Rattle.algebra.specs.Tree.{Expression, term, bound, exists, apply, call, Condition, always, provided, Expressions, eend, econs}
use Rattle.algebra.specs.Tree as Tree
use Rattle.algebra.specs.Valid.{mem, different}
use Rattle.scoping.specs.Sets.{all}
use Rattle.scoping.specs.Variables.{variables_in_pattern, scope_of}
use Rattle.scoping.specs.ScopedOrHidden.{names_with, scoped_or_hidden}
use Rattle.counting.specs.Condition.{Connective, same_term, conjunction, disjunction, negation, outside, connective}
use Rattle.counting.specs.Scope.{expression_vars, names}

-- ---- one walk over a tree, with a test for each kind that has something to test

pub record Tests : Type 0 where
  pub triples : List Triple → Bool  -- of a bgp
  pub condition : Expression → Bool  -- of a filter or a leftjoin
  pub extended : Bytes → List Bytes → Expression → Bool  -- an extend's variable, the variables in scope beneath it, its expression
  pub columns : List Bytes → Bool  -- of values
  pub others : Bool  -- the kinds outside the counting part

-- a leftjoin's expression, if any, passes
abbrev pub condition_passes : (Expression → Bool) → Condition → Bool
condition_passes f always = true
condition_passes f (provided e) = f e

-- every part of the tree passes its test
unfoldable pub everywhere : Tests → Pattern → Bool
unfolding variables_in_pattern
everywhere t (bgp ts) = t.triples ts
everywhere t (join p q) = everywhere t p && everywhere t q
everywhere t (leftjoin p q c) = everywhere t p && (everywhere t q && condition_passes t.condition c)
everywhere t (filter p e) = everywhere t p && t.condition e
everywhere t (union p q) = everywhere t p && everywhere t q
everywhere t (minus p q) = everywhere t p && everywhere t q
everywhere t (extend v p e) = everywhere t p && t.extended v (scope_of p) e
everywhere t (values cs rs) = t.columns cs
everywhere t (project cs p) = everywhere t p
everywhere t (distinct p) = everywhere t p
everywhere t (path s x o) = t.others
everywhere t (graph n p) = t.others
everywhere t (orderby p os) = t.others
everywhere t (reduced p) = t.others
everywhere t (slice s l p) = t.others
everywhere t (group ks p rs) = t.others
everywhere t (service n s p) = t.others

-- ---- expressions: bound, same on terms, and, or, not

-- `term X`
abbrev pub is_term : Expression → Bool
is_term (term x) = true
is_term (bound v) = false
is_term (exists p) = false
is_term (apply o es) = false
is_term (call n es) = false

-- all are `term X`
abbrev pub all_terms : Expressions → Bool
all_terms eend = true
all_terms (econs e es) = is_term e && all_terms es

-- a word, given how many children it has, whether all are terms, whether all are expressions of the part
abbrev pub word_counts : Connective → ℕ → Bool → Bool → Bool
word_counts same_term n ts es = eqb n 2 && ts
word_counts conjunction n ts es = eqb n 2 && es
word_counts disjunction n ts es = eqb n 2 && es
word_counts negation n ts es = eqb n 1 && es
word_counts outside n ts es = false

-- an expression of the part
unfoldable mutual
  pub is_condition : Expression → Bool
  is_condition (term x) = false
  is_condition (bound v) = true
  is_condition (exists p) = false
  is_condition (apply o es) = word_counts (connective o) (Tree.ecount es) (all_terms es) (are_conditions es)
  is_condition (call n es) = false

  pub are_conditions : Expressions → Bool
  are_conditions eend = true
  are_conditions (econs e es) = is_condition e && are_conditions es

-- ---- the trees

-- no blank node in a `t` line
abbrev pub no_blank : Triple → Bool
no_blank t = not (is_blank t.subj) && (not (is_blank t.pred) && not (is_blank t.obj))

-- bgp without blank nodes, join, leftjoin, filter, union, minus, extend with a term, values, project, distinct
unfoldable pub is_countable : Pattern → Bool
unfolding everywhere all is_blank is_condition are_conditions
is_countable = everywhere (record { triples = all no_blank; condition = is_condition; extended = λ v vs e. is_term e; columns = λ cs. true; others = false })

-- an extend's variable isn't in scope beneath it
unfoldable pub extends_fresh : Pattern → Bool
unfolding everywhere mem same
extends_fresh = everywhere (record { triples = λ ts. true; condition = λ e. true; extended = λ v vs e. not (mem v vs); columns = λ cs. true; others = true })

-- no values repeats a column
unfoldable pub values_once : Pattern → Bool
unfolding everywhere different
values_once = everywhere (record { triples = λ ts. true; condition = λ e. true; extended = λ v vs e. true; columns = different; others = true })

-- expressions name only variables that are in scope or hidden in that tree
unfoldable pub expressions_known : Pattern → Bool
unfolding all mem same names_with expression_vars
expressions_known p = all (λ v. mem v (scoped_or_hidden p)) (names p)
