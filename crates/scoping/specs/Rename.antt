-- Renaming in a tree: nemo's rename_in_graph_pattern and rename_in_expression (queries.rs), for a function that gives each name its new one. Assumes nothing.
use Rattle.std.specs.Prelude.{cond, map}
use Rattle.text.specs.Text.{Bytes}
use Rattle.text.specs.Field.{is_var}
use Rattle.algebra.specs.Tree.{Triple, Pattern, bgp, path, join, union, minus, leftjoin, filter, graph, extend, values, orderby, project, distinct, reduced, slice, group, service}
use Rattle.algebra.specs.Tree.{Expression, term, bound, exists, apply, call, Condition, always, provided, Expressions, eend, econs, Orders, oend, ocons, Aggregates, aend, agg, aggall}

-- rename_in_term_pattern, rename_in_named_node_pattern: a variable's new name, any other term as it is
unfoldable pub rename_in_term : (Bytes → Bytes) → Bytes → Bytes
unfolding is_var
rename_in_term f x = cond (is_var x) (f x) x

-- a triple pattern, as rename_in_graph_pattern takes it in a bgp
abbrev pub rename_in_triple : (Bytes → Bytes) → Triple → Triple
rename_in_triple f t = record { subj = rename_in_term f t.subj; pred = rename_in_term f t.pred; obj = rename_in_term f t.obj }

-- rename_in_graph_pattern, rename_in_expression, rename_aggregates: a service's name stays
unfoldable mutual
  unfolding rename_in_term

  pub rename_in_graph_pattern : (Bytes → Bytes) → Pattern → Pattern
  rename_in_graph_pattern f (bgp ts) = bgp (map (rename_in_triple f) ts)
  rename_in_graph_pattern f (path s t o) = path (rename_in_term f s) t (rename_in_term f o)
  rename_in_graph_pattern f (join p q) = join (rename_in_graph_pattern f p) (rename_in_graph_pattern f q)
  rename_in_graph_pattern f (leftjoin p q c) = leftjoin (rename_in_graph_pattern f p) (rename_in_graph_pattern f q) (rename_in_condition f c)
  rename_in_graph_pattern f (filter p e) = filter (rename_in_graph_pattern f p) (rename_in_expression f e)
  rename_in_graph_pattern f (union p q) = union (rename_in_graph_pattern f p) (rename_in_graph_pattern f q)
  rename_in_graph_pattern f (graph n p) = graph (rename_in_term f n) (rename_in_graph_pattern f p)
  rename_in_graph_pattern f (extend v p e) = extend (f v) (rename_in_graph_pattern f p) (rename_in_expression f e)
  rename_in_graph_pattern f (minus p q) = minus (rename_in_graph_pattern f p) (rename_in_graph_pattern f q)
  rename_in_graph_pattern f (values cs rs) = values (map f cs) rs
  rename_in_graph_pattern f (orderby p os) = orderby (rename_in_graph_pattern f p) (rename_in_orders f os)
  rename_in_graph_pattern f (project cs p) = project (map f cs) (rename_in_graph_pattern f p)
  rename_in_graph_pattern f (distinct p) = distinct (rename_in_graph_pattern f p)
  rename_in_graph_pattern f (reduced p) = reduced (rename_in_graph_pattern f p)
  rename_in_graph_pattern f (slice s l p) = slice s l (rename_in_graph_pattern f p)
  rename_in_graph_pattern f (group ks p rs) = group (map f ks) (rename_in_graph_pattern f p) (rename_aggregates f rs)
  rename_in_graph_pattern f (service n s p) = service n s (rename_in_graph_pattern f p)

  pub rename_in_expression : (Bytes → Bytes) → Expression → Expression
  rename_in_expression f (term x) = term (rename_in_term f x)
  rename_in_expression f (bound v) = bound (f v)
  rename_in_expression f (exists p) = exists (rename_in_graph_pattern f p)
  rename_in_expression f (apply o es) = apply o (rename_in_expressions f es)
  rename_in_expression f (call n es) = call n (rename_in_expressions f es)

  pub rename_in_condition : (Bytes → Bytes) → Condition → Condition
  rename_in_condition f always = always
  rename_in_condition f (provided e) = provided (rename_in_expression f e)

  pub rename_in_expressions : (Bytes → Bytes) → Expressions → Expressions
  rename_in_expressions f eend = eend
  rename_in_expressions f (econs e es) = econs (rename_in_expression f e) (rename_in_expressions f es)

  pub rename_in_orders : (Bytes → Bytes) → Orders → Orders
  rename_in_orders f oend = oend
  rename_in_orders f (ocons d e os) = ocons d (rename_in_expression f e) (rename_in_orders f os)

  pub rename_aggregates : (Bytes → Bytes) → Aggregates → Aggregates
  rename_aggregates f aend = aend
  rename_aggregates f (agg v n d e rs) = agg (f v) n d (rename_in_expression f e) (rename_aggregates f rs)
  rename_aggregates f (aggall v d rs) = aggall (f v) d (rename_aggregates f rs)
