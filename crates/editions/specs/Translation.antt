-- From syntax to algebra: SPARQL 1.1, section 18.2.2 and 18.2.5; SPARQL 1.0, section 12.2, which is the same on its smaller syntax. A pattern is the algebra of docs/SPECIFICATION.md; ToList and ToMultiset are not written, and `always` is the condition true. Written from knowledge of the standards, whose pages were not at hand. Assumes nothing.
use Rattle.std.specs.Prelude.{List, [], ◌∷◌, ◌++◌, cond}
use Rattle.std.proofs.Math.Option.{Option, none, some}
use Rattle.text.specs.Text.{Bytes}
use Rattle.algebra.specs.Tree.{Triple, AND, Pattern, bgp, path, join, union, minus, leftjoin, filter, graph, extend, values, orderby, project, distinct, reduced, slice, group, service, Expression, apply, always, provided, eend, econs}
use Rattle.algebra.specs.Valid.{mem}
use Rattle.scoping.specs.InScope.{in_scope}

-- an element of a group, the groups in it translated already
pub data Element : Type 0 where
  triple : Triple → Element
  filters : Expression → Element  -- FILTER
  optional : Pattern → Element  -- OPTIONAL
  takeaway : Pattern → Element  -- MINUS
  bind : Bytes → Expression → Element  -- BIND
  other : Pattern → Element  -- any other form

-- the empty pattern
abbrev pub Z : Pattern
Z = bgp []

-- 18.2.2.2: the filters of the group, wherever they stand in it
unfoldable pub filters_of : List Element → List Expression
filters_of [] = []
filters_of (filters x ∷ es) = x ∷ filters_of es
filters_of (triple t ∷ es) = filters_of es
filters_of (optional a ∷ es) = filters_of es
filters_of (takeaway a ∷ es) = filters_of es
filters_of (bind v x ∷ es) = filters_of es
filters_of (other a ∷ es) = filters_of es

-- 18.2.2.5: adjacent triple patterns form one basic graph pattern
abbrev pub block : List Triple → Pattern → Pattern
block [] g = g
block (t ∷ ts) g = join g (bgp (t ∷ ts))

-- 18.2.2.6: if A is of the form Filter(F, A2)
abbrev pub optionally : Pattern → Pattern → Pattern
optionally g (filter a f) = leftjoin g a (provided f)
optionally g (bgp ts) = leftjoin g (bgp ts) always
optionally g (path s t o) = leftjoin g (path s t o) always
optionally g (join p q) = leftjoin g (join p q) always
optionally g (union p q) = leftjoin g (union p q) always
optionally g (minus p q) = leftjoin g (minus p q) always
optionally g (leftjoin p q c) = leftjoin g (leftjoin p q c) always
optionally g (graph n p) = leftjoin g (graph n p) always
optionally g (extend v p x) = leftjoin g (extend v p x) always
optionally g (values cs rs) = leftjoin g (values cs rs) always
optionally g (orderby p os) = leftjoin g (orderby p os) always
optionally g (project cs p) = leftjoin g (project cs p) always
optionally g (distinct p) = leftjoin g (distinct p) always
optionally g (reduced p) = leftjoin g (reduced p) always
optionally g (slice a n p) = leftjoin g (slice a n p) always
optionally g (group ks p rs) = leftjoin g (group ks p rs) always
optionally g (service n f p) = leftjoin g (service n f p) always

-- 18.2.2.6, the loop over the elements: the triple patterns just read, and G. A BIND of a variable in scope in G is no SPARQL (section 19.8, note on BIND)
unfoldable pub elements : List Element → List Triple → Pattern → Option Pattern
elements [] ts g = some (block ts g)
elements (triple t ∷ es) ts g = elements es (ts ++ (t ∷ [])) g
elements (filters x ∷ es) ts g = elements es ts g
elements (optional a ∷ es) ts g = elements es [] (optionally (block ts g) a)
elements (takeaway a ∷ es) ts g = elements es [] (minus (block ts g) a)
elements (bind v x ∷ es) ts g = cond (mem v (in_scope (block ts g))) none (elements es [] (extend v (block ts g) x))
elements (other a ∷ es) ts g = elements es [] (join (block ts g) a)

abbrev pub conjunction : Expression → List Expression → Expression
conjunction x [] = x
conjunction x (y ∷ ys) = conjunction (apply AND (econs x (econs y eend))) ys

-- 18.2.2.7: the filters of the group
abbrev pub filtered : List Expression → Pattern → Pattern
filtered [] g = g
filtered (x ∷ xs) g = filter g (conjunction x xs)

abbrev pub mapped : {A B : Type 0} → (A → B) → Option A → Option B
mapped f none = none
mapped f (some a) = some (f a)

-- a whole group
unfoldable pub translated : List Element → Option Pattern
translated es = mapped (filtered (filters_of es)) (elements es [] Z)
