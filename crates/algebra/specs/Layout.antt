-- The text of a tree, a query and a list: one record a line, in preorder, patterns before expressions under one parent. docs/SPECIFICATION.md, "Lines of a tree". Assumes nothing.
use Rattle.std.specs.Prelude.{ℕ, suc, ◌-◌, List, [], ◌∷◌, ◌++◌, length}
use Rattle.text.specs.Text.{Bytes, Line, text_of}
use Rattle.text.specs.Word.{bytes}
use Rattle.text.specs.Field.{decimal}
use Rattle.algebra.specs.Tree.{Triple, Op, Direction, Pattern, bgp, path, join, union, minus, leftjoin, filter, graph, extend, values, orderby, project, distinct, reduced, slice, group, service, Expression, term, bound, exists, apply, call, Condition, always, provided, Expressions, eend, econs, Orders, oend, ocons, Aggregates, aend, agg, aggall, ecount, ocount, acount}
use Rattle.algebra.specs.Query.{Query, Pair, Value, BindingSet, Filter, leaf, ref, function, Filters, fend, fcons, fcount}
use Rattle.algebra.specs.Word.{spell_o, spell_d, spell_f, spell_v, Arity, exactly, counted, arity, filter_arity}

-- Each function below writes its lines in front of the lines that follow.

-- n lines `t s p o`
unfoldable pub put_triples : List Triple → List Line → List Line
put_triples [] t = t
put_triples (x ∷ xs) t = (bytes "t" ∷ x.subj ∷ x.pred ∷ x.obj ∷ []) ∷ put_triples xs t

-- k lines `row`
unfoldable pub put_rows : List (List Bytes) → List Line → List Line
put_rows [] t = t
put_rows (r ∷ rs) t = (bytes "row" ∷ r) ∷ put_rows rs t

-- the number in the line of a word under which k children stand
unfoldable pub put_arity : Arity → ℕ → List Bytes
unfolding decimal
put_arity (exactly n) k = []
put_arity (counted n) k = decimal (k - n) ∷ []

-- 1 if there is an expression
abbrev pub put_flag : Condition → Bytes
put_flag always = bytes "0"
put_flag (provided e) = bytes "1"

unfoldable mutual
  unfolding put_triples put_rows put_arity decimal

  pub put : Pattern → List Line → List Line
  put (bgp ts) t = (bytes "bgp" ∷ decimal (length ts) ∷ []) ∷ put_triples ts t
  put (path s x o) t = (bytes "path" ∷ s ∷ x ∷ o ∷ []) ∷ t
  put (join p q) t = (bytes "join" ∷ []) ∷ put p (put q t)
  put (union p q) t = (bytes "union" ∷ []) ∷ put p (put q t)
  put (minus p q) t = (bytes "minus" ∷ []) ∷ put p (put q t)
  put (leftjoin p q c) t = (bytes "leftjoin" ∷ put_flag c ∷ []) ∷ put p (put q (put_c c t))
  put (filter p e) t = (bytes "filter" ∷ []) ∷ put p (put_e e t)
  put (graph n p) t = (bytes "graph" ∷ n ∷ []) ∷ put p t
  put (extend v p e) t = (bytes "extend" ∷ v ∷ []) ∷ put p (put_e e t)
  put (values cs rs) t = (bytes "values" ∷ decimal (length cs) ∷ decimal (length rs) ∷ []) ∷ (bytes "cols" ∷ cs) ∷ put_rows rs t
  put (orderby p os) t = (bytes "orderby" ∷ decimal (ocount os) ∷ []) ∷ put p (put_os os t)
  put (project cs p) t = (bytes "project" ∷ cs) ∷ put p t
  put (distinct p) t = (bytes "distinct" ∷ []) ∷ put p t
  put (reduced p) t = (bytes "reduced" ∷ []) ∷ put p t
  put (slice a n p) t = (bytes "slice" ∷ a ∷ n ∷ []) ∷ put p t
  put (group ks p rs) t = (bytes "group" ∷ decimal (length ks) ∷ decimal (acount rs) ∷ []) ∷ (bytes "cols" ∷ ks) ∷ put p (put_as rs t)
  put (service n f p) t = (bytes "service" ∷ n ∷ f ∷ []) ∷ put p t

  pub put_e : Expression → List Line → List Line
  put_e (term x) t = (bytes "term" ∷ x ∷ []) ∷ t
  put_e (bound v) t = (bytes "bound" ∷ v ∷ []) ∷ t
  put_e (exists p) t = (bytes "exists" ∷ []) ∷ put p t
  put_e (apply o es) t = (spell_o o ∷ put_arity (arity o) (ecount es)) ∷ put_es es t
  put_e (call n es) t = (bytes "call" ∷ n ∷ decimal (ecount es) ∷ []) ∷ put_es es t

  pub put_c : Condition → List Line → List Line
  put_c always t = t
  put_c (provided e) t = put_e e t

  pub put_es : Expressions → List Line → List Line
  put_es eend t = t
  put_es (econs e es) t = put_e e (put_es es t)

  pub put_os : Orders → List Line → List Line
  put_os oend t = t
  put_os (ocons d e os) t = (spell_d d ∷ []) ∷ put_e e (put_os os t)

  pub put_as : Aggregates → List Line → List Line
  put_as aend t = t
  put_as (agg v n f e rs) t = (bytes "agg" ∷ v ∷ n ∷ f ∷ []) ∷ put_e e (put_as rs t)
  put_as (aggall v f rs) t = (bytes "aggall" ∷ v ∷ f ∷ []) ∷ put_as rs t

-- a tree's text
unfoldable pub layout : Pattern → Bytes
unfolding put text_of
layout p = text_of (put p [])

-- ---- queries and lists

-- `query kind dataset base`, then a tree
unfoldable pub put_query : Query → List Line → List Line
unfolding put
put_query q t = (bytes "query" ∷ q.kind ∷ q.dataset ∷ q.base ∷ []) ∷ put q.tree t

-- one pair a line
unfoldable pub put_pairs : List Pair → List Line → List Line
put_pairs [] t = t
put_pairs (x ∷ xs) t = (x.first ∷ x.second ∷ []) ∷ put_pairs xs t

-- `domain lexical extra`, for each value
unfoldable pub put_values : List Value → List Bytes
put_values [] = []
put_values (v ∷ vs) = spell_v v.domain ∷ v.lexical ∷ v.extra ∷ put_values vs

unfoldable pub put_value_rows : List (List Value) → List Line → List Line
unfolding put_values
put_value_rows [] t = t
put_value_rows (r ∷ rs) t = (bytes "row" ∷ put_values r) ∷ put_value_rows rs t

-- `set m k`, a line `at` and m positions, k lines `row` and m values of three fields each
unfoldable pub put_sets : List BindingSet → List Line → List Line
unfolding put_value_rows decimal
put_sets [] t = t
put_sets (x ∷ xs) t = (bytes "set" ∷ decimal (length x.positions) ∷ decimal (length x.rows) ∷ []) ∷ (bytes "at" ∷ x.positions) ∷ put_value_rows x.rows (put_sets xs t)

-- `leaf value`, `ref k`, `un name`, `bin name`, `tern name`, `nary name n`, and the parts below
unfoldable mutual
  unfolding put_values put_arity

  pub put_filter : Filter → List Line → List Line
  put_filter (leaf v) t = (bytes "leaf" ∷ put_values (v ∷ [])) ∷ t
  put_filter (ref k) t = (bytes "ref" ∷ k ∷ []) ∷ t
  put_filter (function w n fs) t = (spell_f w ∷ n ∷ put_arity (filter_arity w) (fcount fs)) ∷ put_parts fs t

  pub put_parts : Filters → List Line → List Line
  put_parts fend t = t
  put_parts (fcons f fs) t = put_filter f (put_parts fs t)

-- a list of filters, one after the other
unfoldable pub put_filters : List Filter → List Line → List Line
unfolding put_filter
put_filters [] t = t
put_filters (f ∷ fs) t = put_filter f (put_filters fs t)
