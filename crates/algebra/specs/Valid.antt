-- Which trees, queries and lists are well formed: the kind of each field and the number of children, docs/SPECIFICATION.md, "Lines of a tree". Assumes nothing.
use Rattle.std.specs.Prelude.{ℕ, suc, ◌+◌, ◌-◌, ◌≤◌, ◌≡◌, List, [], ◌∷◌, ◌++◌, Bool, true, false, cond, not, ◌||◌, ◌&&◌, length}
use Rattle.text.specs.Text.{Bytes, same}
use Rattle.text.specs.Field.{most, Kind, variable, node, plain, name, cell, integer, limit, flag, opaque, lexical, form, fits, all_fit}
use Rattle.algebra.specs.Tree.{Triple, Pattern, bgp, path, join, union, minus, leftjoin, filter, graph, extend, values, orderby, project, distinct, reduced, slice, group, service, Expression, term, bound, exists, apply, call, Condition, always, provided, Expressions, eend, econs, Orders, oend, ocons, Aggregates, aend, agg, aggall, ecount, ocount, acount}
use Rattle.algebra.specs.Query.{Query, PairList, Pair, first_kind, second_kind, unique, Value, extra_kind, BindingSet, Filter, leaf, ref, function, Filters, fend, fcons, fcount}
use Rattle.algebra.specs.Word.{Arity, exactly, counted, arity, filter_arity}

abbrev pub Fits : Kind → Bytes → Type 0
Fits k f = fits k f ≡ true

abbrev pub AllFit : Kind → List Bytes → Type 0
AllFit k fs = all_fit k fs ≡ true

-- predicates are IRIs or variables, subjects and objects any terms
unfoldable pub Triples : List Triple → Type 0
Triples [] = Unit {0}
Triples (x ∷ xs) = Fits node x.subj × Fits name x.pred × Fits node x.obj × Triples xs

-- rows of m cells
unfoldable pub Rows : ℕ → List (List Bytes) → Type 0
Rows m [] = Unit {0}
Rows m (r ∷ rs) = (length r ≡ m) × AllFit cell r × Rows m rs

-- k children may stand under the word
unfoldable pub Takes : Arity → ℕ → Type 0
Takes (exactly n) k = k ≡ n
Takes (counted n) k = (n ≤ k) × (k - n ≤ most)

unfoldable mutual
  unfolding Triples Rows Takes

  pub Valid : Pattern → Type 0
  Valid (bgp ts) = (length ts ≤ most) × Triples ts
  Valid (path s x o) = Fits node s × Fits opaque x × Fits node o
  Valid (join p q) = Valid p × Valid q
  Valid (union p q) = Valid p × Valid q
  Valid (minus p q) = Valid p × Valid q
  Valid (leftjoin p q c) = Valid p × Valid q × ValidC c
  Valid (filter p e) = Valid p × ValidE e
  Valid (graph n p) = Fits name n × Valid p
  Valid (extend v p e) = Fits variable v × Valid p × ValidE e
  Valid (values cs rs) = (length cs ≤ most) × (length rs ≤ most) × AllFit variable cs × Rows (length cs) rs
  Valid (orderby p os) = (ocount os ≤ most) × Valid p × ValidOs os
  Valid (project cs p) = AllFit variable cs × Valid p
  Valid (distinct p) = Valid p
  Valid (reduced p) = Valid p
  Valid (slice a n p) = Fits integer a × Fits limit n × Valid p
  Valid (group ks p rs) = (length ks ≤ most) × (acount rs ≤ most) × AllFit variable ks × Valid p × ValidAs rs
  Valid (service n f p) = Fits name n × Fits flag f × Valid p

  pub ValidE : Expression → Type 0
  ValidE (term x) = Fits plain x
  ValidE (bound v) = Fits variable v
  ValidE (exists p) = Valid p
  ValidE (apply o es) = Takes (arity o) (ecount es) × ValidEs es
  ValidE (call n es) = Fits opaque n × (ecount es ≤ most) × ValidEs es

  pub ValidC : Condition → Type 0
  ValidC always = Unit {0}
  ValidC (provided e) = ValidE e

  pub ValidEs : Expressions → Type 0
  ValidEs eend = Unit {0}
  ValidEs (econs e es) = ValidE e × ValidEs es

  pub ValidOs : Orders → Type 0
  ValidOs oend = Unit {0}
  ValidOs (ocons d e os) = ValidE e × ValidOs os

  pub ValidAs : Aggregates → Type 0
  ValidAs aend = Unit {0}
  ValidAs (agg v n f e rs) = Fits variable v × Fits opaque n × Fits flag f × ValidE e × ValidAs rs
  ValidAs (aggall v f rs) = Fits variable v × Fits flag f × ValidAs rs

-- the kinds of a head's fields, and the tree
unfoldable pub ValidQuery : Query → Type 0
unfolding Valid
ValidQuery q = Fits form q.kind × Fits opaque q.dataset × Fits opaque q.base × Valid q.tree

-- a field is among the fields
unfoldable pub mem : Bytes → List Bytes → Bool
mem v [] = false
mem v (x ∷ xs) = same v x || mem v xs

-- no name twice
unfoldable pub different : List Bytes → Bool
unfolding mem same
different [] = true
different (x ∷ xs) = not (mem x xs) && different xs

-- pairs of the list's kinds; in a list without repetition no first field is among those before it, `seen`
unfoldable pub ValidPairs : PairList → List Bytes → List Pair → Type 0
unfolding mem
ValidPairs κ seen [] = Unit {0}
ValidPairs κ seen (x ∷ xs) = Fits (first_kind κ) x.first × Fits (second_kind κ) x.second × (cond (unique κ) (mem x.first seen) false ≡ false) × ValidPairs κ (seen ++ (x.first ∷ [])) xs

unfoldable pub ValidValue : Value → Type 0
ValidValue v = Fits lexical v.lexical × Fits (extra_kind v.domain) v.extra

unfoldable pub ValidValues : List Value → Type 0
unfolding ValidValue
ValidValues [] = Unit {0}
ValidValues (v ∷ vs) = ValidValue v × ValidValues vs

-- rows of m values
unfoldable pub ValueRows : ℕ → List (List Value) → Type 0
unfolding ValidValues
ValueRows m [] = Unit {0}
ValueRows m (r ∷ rs) = (length r ≡ m) × ValidValues r × ValueRows m rs

unfoldable pub ValidSets : List BindingSet → Type 0
unfolding ValueRows
ValidSets [] = Unit {0}
ValidSets (x ∷ xs) = (length x.positions ≤ most) × (length x.rows ≤ most) × AllFit integer x.positions × ValueRows (length x.positions) x.rows × ValidSets xs

unfoldable mutual
  unfolding ValidValue Takes

  pub ValidFilter : Filter → Type 0
  ValidFilter (leaf v) = ValidValue v
  ValidFilter (ref k) = Fits integer k
  ValidFilter (function w n fs) = Fits opaque n × Takes (filter_arity w) (fcount fs) × ValidParts fs

  pub ValidParts : Filters → Type 0
  ValidParts fend = Unit {0}
  ValidParts (fcons f fs) = ValidFilter f × ValidParts fs

unfoldable pub ValidFilters : List Filter → Type 0
unfolding ValidFilter
ValidFilters [] = Unit {0}
ValidFilters (f ∷ fs) = ValidFilter f × ValidFilters fs
