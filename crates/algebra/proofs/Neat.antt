-- The lines of well formed trees, queries and lists can be told from their text. Assumes nothing.
use mathlib.Core.Path.{◌≡◌, refl}
use mathlib.Core.Bool.{true}
use mathlib.Core.List.{List, [], ◌∷◌}
use Prim.Native.Nat.{ℕ, ◌-◌}
use lib.ListN.{length}
use Rattle.text.specs.Text.{Bytes, Line}
use Rattle.text.specs.Field.{clean, variable, node, plain, name, cell, integer, limit, flag, opaque, lexical, form}
use Rattle.text.proofs.Texts.{AllClean, Neat, fits-clean, all-clean, decimal-clean}
use Rattle.algebra.specs.Tree.{Triple, Op, OR, AND, EQ, SAME, GT, GE, LT, LE, ADD, SUB, MUL, DIV, IN, PLUS, NEG, NOT, IF, COALESCE, Direction, ASC, DESC, Pattern, bgp, path, join, union, minus, leftjoin, filter, graph, extend, values, orderby, project, distinct, reduced, slice, group, service, Expression, term, bound, exists, apply, call, Condition, always, provided, Expressions, eend, econs, Orders, oend, ocons, Aggregates, aend, agg, aggall, ecount, ocount, acount}
use Rattle.algebra.specs.Query.{Query, PairList, Pair, first_kind, second_kind, Domain, PlainString, LanguageTaggedString, Iri, Float, Double, UnsignedLong, NonNegativeLong, UnsignedInt, NonNegativeInt, Long, Int, Boolean, Null, Tuple, Map, Other, Value, extra_kind, BindingSet, FilterWord, UN, BIN, TERN, NARY, Filter, leaf, ref, function, Filters, fend, fcons, fcount}
use Rattle.algebra.specs.Word.{spell_o, spell_d, spell_v, spell_f, Arity, exactly, counted, arity, filter_arity}
use Rattle.algebra.specs.Layout.{put_triples, put_rows, put_arity, put, put_e, put_c, put_es, put_os, put_as, put_flag, put_query, put_pairs, put_values, put_value_rows, put_sets, put_filter, put_parts, put_filters}
use Rattle.algebra.specs.Valid.{Triples, Rows, Valid, ValidE, ValidC, ValidEs, ValidOs, ValidAs, ValidQuery, ValidPairs, ValidValues, ValueRows, ValidSets, ValidFilter, ValidParts, ValidFilters}

-- ---- trees

op-clean : (o : Op) → clean (spell_o o) ≡ true
unfolding clean
op-clean OR = refl
op-clean AND = refl
op-clean EQ = refl
op-clean SAME = refl
op-clean GT = refl
op-clean GE = refl
op-clean LT = refl
op-clean LE = refl
op-clean ADD = refl
op-clean SUB = refl
op-clean MUL = refl
op-clean DIV = refl
op-clean IN = refl
op-clean PLUS = refl
op-clean NEG = refl
op-clean NOT = refl
op-clean IF = refl
op-clean COALESCE = refl

order-clean : (d : Direction) → clean (spell_d d) ≡ true
unfolding clean
order-clean ASC = refl
order-clean DESC = refl

flag-clean : (c : Condition) → clean (put_flag c) ≡ true
unfolding clean
flag-clean always = refl
flag-clean (provided e) = refl

arity-clean : (a : Arity) (k : ℕ) → AllClean (put_arity a k)
unfolding put_arity
arity-clean (exactly n) k = tt
arity-clean (counted n) k = (decimal-clean (k - n), tt)

triples-neat : (ts : List Triple) (t : List Line) → Triples ts → Neat t → Neat (put_triples ts t)
unfolding Triples put_triples clean
triples-neat [] t v n = n
triples-neat (x ∷ xs) t v n = ((refl, (fits-clean node x.subj v.0, (fits-clean name x.pred v.1, (fits-clean node x.obj v.2, tt)))), triples-neat xs t v.3 n)

rows-neat : (m : ℕ) (rs : List (List Bytes)) (t : List Line) → Rows m rs → Neat t → Neat (put_rows rs t)
unfolding Rows put_rows clean
rows-neat m [] t v n = n
rows-neat m (r ∷ rs) t v n = ((refl, all-clean cell r v.1), rows-neat m rs t v.2 n)

mutual
  unfolding put Valid clean

  pub neat : (p : Pattern) (t : List Line) → Valid p → Neat t → Neat (put p t)
  neat (bgp ts) t v n = ((refl, (decimal-clean (length ts), tt)), triples-neat ts t v.1 n)
  neat (path s x o) t v n = ((refl, (fits-clean node s v.0, (fits-clean opaque x v.1, (fits-clean node o v.2, tt)))), n)
  neat (join p q) t v n = ((refl, tt), neat p (put q t) v.0 (neat q t v.1 n))
  neat (union p q) t v n = ((refl, tt), neat p (put q t) v.0 (neat q t v.1 n))
  neat (minus p q) t v n = ((refl, tt), neat p (put q t) v.0 (neat q t v.1 n))
  neat (leftjoin p q c) t v n = ((refl, (flag-clean c, tt)), neat p (put q (put_c c t)) v.0 (neat q (put_c c t) v.1 (neat_c c t v.2 n)))
  neat (filter p e) t v n = ((refl, tt), neat p (put_e e t) v.0 (neat_e e t v.1 n))
  neat (graph x p) t v n = ((refl, (fits-clean name x v.0, tt)), neat p t v.1 n)
  neat (extend x p e) t v n = ((refl, (fits-clean variable x v.0, tt)), neat p (put_e e t) v.1 (neat_e e t v.2 n))
  neat (values cs rs) t v n = ((refl, (decimal-clean (length cs), (decimal-clean (length rs), tt))), ((refl, all-clean variable cs v.2), rows-neat (length cs) rs t v.3 n))
  neat (orderby p os) t v n = ((refl, (decimal-clean (ocount os), tt)), neat p (put_os os t) v.1 (neat_os os t v.2 n))
  neat (project cs p) t v n = ((refl, all-clean variable cs v.0), neat p t v.1 n)
  neat (distinct p) t v n = ((refl, tt), neat p t v n)
  neat (reduced p) t v n = ((refl, tt), neat p t v n)
  neat (slice a b p) t v n = ((refl, (fits-clean integer a v.0, (fits-clean limit b v.1, tt))), neat p t v.2 n)
  neat (group ks p rs) t v n = ((refl, (decimal-clean (length ks), (decimal-clean (acount rs), tt))), ((refl, all-clean variable ks v.2), neat p (put_as rs t) v.3 (neat_as rs t v.4 n)))
  neat (service x f p) t v n = ((refl, (fits-clean name x v.0, (fits-clean flag f v.1, tt))), neat p t v.2 n)

  pub neat_e : (e : Expression) (t : List Line) → ValidE e → Neat t → Neat (put_e e t)
  neat_e (term x) t v n = ((refl, (fits-clean plain x v, tt)), n)
  neat_e (bound x) t v n = ((refl, (fits-clean variable x v, tt)), n)
  neat_e (exists p) t v n = ((refl, tt), neat p t v n)
  neat_e (apply o es) t v n = ((op-clean o, arity-clean (arity o) (ecount es)), neat_es es t v.1 n)
  neat_e (call x es) t v n = ((refl, (fits-clean opaque x v.0, (decimal-clean (ecount es), tt))), neat_es es t v.2 n)

  pub neat_c : (c : Condition) (t : List Line) → ValidC c → Neat t → Neat (put_c c t)
  neat_c always t v n = n
  neat_c (provided e) t v n = neat_e e t v n

  pub neat_es : (es : Expressions) (t : List Line) → ValidEs es → Neat t → Neat (put_es es t)
  neat_es eend t v n = n
  neat_es (econs e es) t v n = neat_e e (put_es es t) v.0 (neat_es es t v.1 n)

  pub neat_os : (os : Orders) (t : List Line) → ValidOs os → Neat t → Neat (put_os os t)
  neat_os oend t v n = n
  neat_os (ocons d e os) t v n = ((order-clean d, tt), neat_e e (put_os os t) v.0 (neat_os os t v.1 n))

  pub neat_as : (rs : Aggregates) (t : List Line) → ValidAs rs → Neat t → Neat (put_as rs t)
  neat_as aend t v n = n
  neat_as (agg x y f e rs) t v n = ((refl, (fits-clean variable x v.0, (fits-clean opaque y v.1, (fits-clean flag f v.2, tt)))), neat_e e (put_as rs t) v.3 (neat_as rs t v.4 n))
  neat_as (aggall x f rs) t v n = ((refl, (fits-clean variable x v.0, (fits-clean flag f v.1, tt))), neat_as rs t v.2 n)

-- ---- queries and lists

pub query-neat : (q : Query) (t : List Line) → ValidQuery q → Neat t → Neat (put_query q t)
unfolding put_query ValidQuery clean
query-neat q t v n = ((refl, (fits-clean form q.kind v.0, (fits-clean opaque q.dataset v.1, (fits-clean opaque q.base v.2, tt)))), neat q.tree t v.3 n)

pub pairs-neat : (κ : PairList) (seen : List Bytes) (xs : List Pair) (t : List Line) → ValidPairs κ seen xs → Neat t → Neat (put_pairs xs t)
unfolding put_pairs ValidPairs
pairs-neat κ seen [] t v n = n
pairs-neat κ seen (x ∷ xs) t v n = ((fits-clean (first_kind κ) x.first v.0, (fits-clean (second_kind κ) x.second v.1, tt)), pairs-neat κ _ xs t v.3 n)

domain-clean : (d : Domain) → clean (spell_v d) ≡ true
unfolding clean
domain-clean PlainString = refl
domain-clean LanguageTaggedString = refl
domain-clean Iri = refl
domain-clean Float = refl
domain-clean Double = refl
domain-clean UnsignedLong = refl
domain-clean NonNegativeLong = refl
domain-clean UnsignedInt = refl
domain-clean NonNegativeInt = refl
domain-clean Long = refl
domain-clean Int = refl
domain-clean Boolean = refl
domain-clean Null = refl
domain-clean Tuple = refl
domain-clean Map = refl
domain-clean Other = refl

values-clean : (vs : List Value) → ValidValues vs → AllClean (put_values vs)
unfolding put_values ValidValues
values-clean [] v = tt
values-clean (x ∷ xs) v = (domain-clean x.domain, (fits-clean lexical x.lexical v.0.0, (fits-clean (extra_kind x.domain) x.extra v.0.1, values-clean xs v.1)))

value-rows-neat : (m : ℕ) (rs : List (List Value)) (t : List Line) → ValueRows m rs → Neat t → Neat (put_value_rows rs t)
unfolding put_value_rows ValueRows clean
value-rows-neat m [] t v n = n
value-rows-neat m (r ∷ rs) t v n = ((refl, values-clean r v.1), value-rows-neat m rs t v.2 n)

pub sets-neat : (xs : List BindingSet) (t : List Line) → ValidSets xs → Neat t → Neat (put_sets xs t)
unfolding put_sets ValidSets clean
sets-neat [] t v n = n
sets-neat (x ∷ xs) t v n = ((refl, (decimal-clean (length x.positions), (decimal-clean (length x.rows), tt))), ((refl, all-clean integer x.positions v.2), value-rows-neat (length x.positions) x.rows (put_sets xs t) v.3 (sets-neat xs t v.4 n)))

function-clean : (w : FilterWord) → clean (spell_f w) ≡ true
unfolding clean
function-clean UN = refl
function-clean BIN = refl
function-clean TERN = refl
function-clean NARY = refl

mutual
  unfolding put_filter ValidFilter ValidValues clean

  filter-neat : (f : Filter) (t : List Line) → ValidFilter f → Neat t → Neat (put_filter f t)
  filter-neat (leaf x) t v n = ((refl, values-clean (x ∷ []) (v, tt)), n)
  filter-neat (ref k) t v n = ((refl, (fits-clean integer k v, tt)), n)
  filter-neat (function w x fs) t v n = ((function-clean w, (fits-clean opaque x v.0, arity-clean (filter_arity w) (fcount fs))), parts-neat fs t v.2 n)

  parts-neat : (fs : Filters) (t : List Line) → ValidParts fs → Neat t → Neat (put_parts fs t)
  parts-neat fend t v n = n
  parts-neat (fcons f fs) t v n = filter-neat f (put_parts fs t) v.0 (parts-neat fs t v.1 n)

pub filters-neat : (fs : List Filter) (t : List Line) → ValidFilters fs → Neat t → Neat (put_filters fs t)
unfolding put_filters ValidFilters
filters-neat [] t v n = n
filters-neat (f ∷ fs) t v n = filter-neat f (put_filters fs t) v.0 (filters-neat fs t v.1 n)
