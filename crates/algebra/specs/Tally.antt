-- What is counted line by line, and the bounds on it, names by first place: docs/SPECIFICATION.md, "Bounds", and "Order of numbering". Assumes nothing.
use Rattle.std.specs.Prelude.{ℕ, suc, max, List, [], ◌∷◌, ◌++◌, Bool, true, false, cond, ◌&&◌, leb, length}
use Rattle.text.specs.Text.{Bytes}
use Rattle.text.specs.Field.{is_var}
use Rattle.algebra.specs.Tree.{Triple, Pattern, bgp, path, join, union, minus, leftjoin, filter, graph, extend, values, orderby, project, distinct, reduced, slice, group, service, Expression, term, bound, exists, apply, call, Condition, always, provided, Expressions, eend, econs, Orders, oend, ocons, Aggregates, aend, agg, aggall}
use Rattle.algebra.specs.Query.{Query, PairList, Pair, unique, Value, BindingSet, Filter, leaf, ref, function, Filters, fend, fcons}
use Rattle.algebra.specs.Valid.{mem}

-- the most of each that a text may have
pub record Limits : Type 0 where
  pub bytes : ℕ
  pub lines : ℕ
  pub depth : ℕ
  pub columns : ℕ  -- of one project
  pub names : ℕ  -- distinct variables
  pub entries : ℕ  -- of one list

-- the specification's bounds
abbrev pub bounds : Limits
bounds = record { bytes = 16384; lines = 2048; depth = 64; columns = 256; names = 1024; entries = 256 }

-- at most n of each
abbrev pub roomy : ℕ → Limits
roomy n = record { bytes = n; lines = n; depth = n; columns = n; names = n; entries = n }

pub record Tally : Type 0 where
  pub lines : ℕ
  pub wide : ℕ  -- the columns of the widest project
  pub names : List Bytes  -- the distinct variables by first place; in a list of pairs the first fields that may not be repeated

abbrev pub start : Tally
start = record { lines = 0; wide = 0; names = [] }

unfoldable pub within : Limits → Tally → Bool
within β m = leb m.lines β.lines && (leb m.wide β.columns && leb (length m.names) β.names)

-- the fields that are variables and are not there yet, at the end
unfoldable pub notes : List Bytes → List Bytes → List Bytes
unfolding mem is_var
notes [] ns = ns
notes (f ∷ fs) ns = notes fs (cond (is_var f) (cond (mem f ns) ns (ns ++ (f ∷ []))) ns)

-- a line with these fields
unfoldable pub noted : List Bytes → Tally → Tally
unfolding notes
noted fs m = record { lines = suc m.lines; wide = m.wide; names = notes fs m.names }

-- the line of a project with these columns
unfoldable pub headed : List Bytes → Tally → Tally
unfolding notes
headed cs m = record { lines = suc m.lines; wide = max m.wide (length cs); names = notes cs m.names }

-- the line of a pair: its first field is kept
unfoldable pub paired : Bytes → Tally → Tally
paired f m = record { lines = suc m.lines; wide = m.wide; names = m.names ++ (f ∷ []) }

-- ---- trees

unfoldable pub tally_triples : List Triple → Tally → Tally
tally_triples [] m = m
tally_triples (x ∷ xs) m = tally_triples xs (noted (x.subj ∷ x.pred ∷ x.obj ∷ []) m)

unfoldable pub tally_rows : {A : Type 0} → List A → Tally → Tally
tally_rows [] m = m
tally_rows (r ∷ rs) m = tally_rows rs (noted [] m)

-- every variable field counts, a service's name too; path texts, call and aggregate names are opaque
unfoldable mutual
  pub tally : Pattern → Tally → Tally
  tally (bgp ts) m = tally_triples ts (noted [] m)
  tally (path s x o) m = noted (s ∷ o ∷ []) m
  tally (join p q) m = tally q (tally p (noted [] m))
  tally (union p q) m = tally q (tally p (noted [] m))
  tally (minus p q) m = tally q (tally p (noted [] m))
  tally (leftjoin p q c) m = tally_c c (tally q (tally p (noted [] m)))
  tally (filter p e) m = tally_e e (tally p (noted [] m))
  tally (graph n p) m = tally p (noted (n ∷ []) m)
  tally (extend v p e) m = tally_e e (tally p (noted (v ∷ []) m))
  tally (values cs rs) m = tally_rows rs (noted cs (noted [] m))
  tally (orderby p os) m = tally_os os (tally p (noted [] m))
  tally (project cs p) m = tally p (headed cs m)
  tally (distinct p) m = tally p (noted [] m)
  tally (reduced p) m = tally p (noted [] m)
  tally (slice a n p) m = tally p (noted [] m)
  tally (group ks p rs) m = tally_as rs (tally p (noted ks (noted [] m)))
  tally (service n f p) m = tally p (noted (n ∷ []) m)

  pub tally_e : Expression → Tally → Tally
  tally_e (term x) m = noted (x ∷ []) m
  tally_e (bound v) m = noted (v ∷ []) m
  tally_e (exists p) m = tally p (noted [] m)
  tally_e (apply o es) m = tally_es es (noted [] m)
  tally_e (call n es) m = tally_es es (noted [] m)

  pub tally_c : Condition → Tally → Tally
  tally_c always m = m
  tally_c (provided e) m = tally_e e m

  pub tally_es : Expressions → Tally → Tally
  tally_es eend m = m
  tally_es (econs e es) m = tally_es es (tally_e e m)

  pub tally_os : Orders → Tally → Tally
  tally_os oend m = m
  tally_os (ocons d e os) m = tally_os os (tally_e e (noted [] m))

  pub tally_as : Aggregates → Tally → Tally
  tally_as aend m = m
  tally_as (agg v n f e rs) m = tally_as rs (tally_e e (noted (v ∷ []) m))
  tally_as (aggall v f rs) m = tally_as rs (noted (v ∷ []) m)

-- ---- queries and lists

-- the head line counts as a line
unfoldable pub tally_query : Query → Tally → Tally
unfolding tally
tally_query q m = tally q.tree (noted [] m)

-- a line of a list, its first field kept where it may not be repeated
abbrev pub tally_pair : PairList → Bytes → Tally → Tally
tally_pair κ f m = cond (unique κ) (paired f m) (noted [] m)

unfoldable pub tally_pairs : PairList → List Pair → Tally → Tally
unfolding paired noted
tally_pairs κ [] m = m
tally_pairs κ (x ∷ xs) m = tally_pairs κ xs (tally_pair κ x.first m)

unfoldable pub tally_sets : List BindingSet → Tally → Tally
unfolding tally_rows noted
tally_sets [] m = m
tally_sets (x ∷ xs) m = tally_sets xs (tally_rows x.rows (noted [] (noted [] m)))

unfoldable mutual
  unfolding noted

  pub tally_filter : Filter → Tally → Tally
  tally_filter (leaf v) m = noted [] m
  tally_filter (ref k) m = noted [] m
  tally_filter (function w n fs) m = tally_parts fs (noted [] m)

  pub tally_parts : Filters → Tally → Tally
  tally_parts fend m = m
  tally_parts (fcons f fs) m = tally_parts fs (tally_filter f m)

unfoldable pub tally_filters : List Filter → Tally → Tally
unfolding tally_filter
tally_filters [] m = m
tally_filters (f ∷ fs) m = tally_filters fs (tally_filter f m)
