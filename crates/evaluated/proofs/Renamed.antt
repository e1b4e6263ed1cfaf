-- A tree that can be evaluated can be evaluated under new names that keep its names apart. Assumes nothing.
use mathlib.Core.Path.{◌≡◌, refl, sym, ◌∙◌, ap, ap₂, subst}
use mathlib.Core.Bool.{Bool, true, false, cond, not, ◌&&◌}
use mathlib.Core.List.{List, [], ◌∷◌, ◌++◌, map}
use Prim.Native.Nat.{suc}
use lib.Dec.{eqb, leb}
use lib.ListN.{length, get_or}
use Rattle.text.specs.Text.{Bytes}
use Rattle.text.specs.Field.{is_var, is_blank}
use Rattle.text.proofs.Basics.{and_right}
use Rattle.algebra.specs.Tree.{Triple, Pattern, bgp, path, join, union, minus, leftjoin, filter, graph, extend, values, orderby, project, distinct, reduced, slice, group, service}
use Rattle.algebra.specs.Tree.{Expression, term, bound, exists, apply, call, Condition, always, provided, Expressions, eend, econs}
use Rattle.algebra.specs.Tree as Tree
use Rattle.algebra.specs.Valid.{mem}
use Rattle.scoping.specs.Sets.{all, variables_of, triple_variables, aggregate_variables}
use Rattle.scoping.specs.Variables.{scope_of}
use Rattle.scoping.specs.ScopedOrHidden.{condition_vars, names_with, scoped_or_hidden}
use Rattle.scoping.specs.Rename.{rename_in_term, rename_in_triple, rename_in_graph_pattern, rename_in_expression, rename_in_condition, rename_in_expressions}
use Rattle.scoping.proofs.Renamed.{aggregates-renamed}
use Rattle.scoping.specs.bridge.Sets.{Sub, Inj}
use Rattle.scoping.proofs.Basics.{both_ways, mem-here, mem-there, mem-map, mem-unmap, mem-variables, sub-left, sub-right, sub-rest, map-append}
use Rattle.counting.specs.Condition.{connective}
use Rattle.counting.specs.Scope.{expression_vars, expressions_vars, names}
use Rattle.counting.specs.Countable.{Tests, condition_passes, everywhere, is_term, all_terms, word_counts, is_condition, are_conditions, no_blank, is_countable, extends_fresh}
use Rattle.counting.proofs.Rename.{scope-in, scope-renamed, fields_renamed, bgp_vars-renamed}
use Rattle.evaluating.proofs.Orders.{eqb-path}

-- a variable is no blank node
var-blank : (x : Bytes) → is_var x ≡ true → is_blank x ≡ false
unfolding is_var is_blank
var-blank x h =
    let e : get_or x 0 0 ≡ 63 = eqb-path (get_or x 0 0) 63 (and_right (leb (length x) 129) _ (and_right (leb 2 (length x)) _ h)) in
    ap (λ n. leb 2 (length x) && (eqb n 95 && eqb (get_or x 1 0) 58)) e ∙ and_no (leb 2 (length x))
  where
    and_no : (b : Bool) → (b && false) ≡ false
    and_no true = refl
    and_no false = refl

-- ---- expressions: their shape stays

term-renamed : (f : Bytes → Bytes) (e : Expression) → is_term (rename_in_expression f e) ≡ is_term e
unfolding rename_in_expression
term-renamed f (term x) = refl
term-renamed f (bound v) = refl
term-renamed f (exists p) = refl
term-renamed f (apply o es) = refl
term-renamed f (call n es) = refl

all-terms-renamed : (f : Bytes → Bytes) (es : Expressions) → all_terms (rename_in_expressions f es) ≡ all_terms es
unfolding rename_in_expressions
all-terms-renamed f eend = refl
all-terms-renamed f (econs e es) = ap₂ ◌&&◌ (term-renamed f e) (all-terms-renamed f es)

count-renamed : (f : Bytes → Bytes) (es : Expressions) → Tree.ecount (rename_in_expressions f es) ≡ Tree.ecount es
unfolding rename_in_expressions
count-renamed f eend = refl
count-renamed f (econs e es) = ap suc (count-renamed f es)

mutual
  unfolding is_condition are_conditions rename_in_expression rename_in_expressions

  condition-renamed : (e : Expression) (f : Bytes → Bytes) → is_condition (rename_in_expression f e) ≡ is_condition e
  condition-renamed (term x) f = refl
  condition-renamed (bound v) f = refl
  condition-renamed (exists p) f = refl
  condition-renamed (apply o es) f = λ i. word_counts (connective o) (count-renamed f es i) (all-terms-renamed f es i) (conditions-renamed es f i)
  condition-renamed (call n es) f = refl

  conditions-renamed : (es : Expressions) (f : Bytes → Bytes) → are_conditions (rename_in_expressions f es) ≡ are_conditions es
  conditions-renamed eend f = refl
  conditions-renamed (econs e es) f = ap₂ ◌&&◌ (condition-renamed e f) (conditions-renamed es f)

module _ (U : List Bytes) (f : Bytes → Bytes) (inj : Inj U f) (new : (v : Bytes) → mem v U ≡ true → is_var (f v) ≡ true) where
  -- ---- a test that renaming doesn't change

  record Blind (t : Tests) : Type 0 where
    triples : (ts : List Triple) → Sub (triple_variables ts) U → t.triples (map (rename_in_triple f) ts) ≡ t.triples ts
    condition : (e : Expression) → t.condition (rename_in_expression f e) ≡ t.condition e
    extended : (v : Bytes) (vs : List Bytes) (e : Expression) → mem v U ≡ true → Sub vs U → t.extended (f v) (map f vs) (rename_in_expression f e) ≡ t.extended v vs e
    columns : (cs : List Bytes) → t.columns (map f cs) ≡ t.columns cs

  passes-renamed : (h : Expression → Bool) → ((e : Expression) → h (rename_in_expression f e) ≡ h e) → (c : Condition) → condition_passes h (rename_in_condition f c) ≡ condition_passes h c
  unfolding rename_in_condition
  passes-renamed h k always = refl
  passes-renamed h k (provided e) = k e

  everywhere-renamed : (t : Tests) → Blind t → (p : Pattern) → Sub (names p) U → everywhere t (rename_in_graph_pattern f p) ≡ everywhere t p
  unfolding everywhere rename_in_graph_pattern names_with
  everywhere-renamed t b (bgp ts) s = b.triples ts s
  everywhere-renamed t b (join p q) s = ap₂ ◌&&◌ (everywhere-renamed t b p (sub-left (names p) (names q) U s)) (everywhere-renamed t b q (sub-right (names p) (names q) U s))
  everywhere-renamed t b (leftjoin p q c) s =
      let r : Sub (names p ++ names q) U = sub-left (names p ++ names q) (condition_vars expression_vars c) U s in
      ap₂ ◌&&◌ (everywhere-renamed t b p (sub-left (names p) (names q) U r)) (ap₂ ◌&&◌ (everywhere-renamed t b q (sub-right (names p) (names q) U r)) (passes-renamed t.condition b.condition c))
  everywhere-renamed t b (filter p e) s = ap₂ ◌&&◌ (everywhere-renamed t b p (sub-left (names p) (expression_vars e) U s)) (b.condition e)
  everywhere-renamed t b (union p q) s = ap₂ ◌&&◌ (everywhere-renamed t b p (sub-left (names p) (names q) U s)) (everywhere-renamed t b q (sub-right (names p) (names q) U s))
  everywhere-renamed t b (minus p q) s = ap₂ ◌&&◌ (everywhere-renamed t b p (sub-left (names p) (names q) U s)) (everywhere-renamed t b q (sub-right (names p) (names q) U s))
  everywhere-renamed t b (extend v p e) s =
      let r : Sub (names p) U = sub-left (names p) (expression_vars e) U (sub-rest v (names p ++ expression_vars e) U s) in
      ap₂ ◌&&◌ (everywhere-renamed t b p r) (ap (λ l. t.extended (f v) l (rename_in_expression f e)) (scope-renamed U f inj new p r) ∙ b.extended v (scope_of p) e (s v (mem-here v (names p ++ expression_vars e))) (scope-in U p r))
  everywhere-renamed t b (values cs rs) s = b.columns cs
  everywhere-renamed t b (project cs p) s = everywhere-renamed t b p (sub-right cs (names p) U s)
  everywhere-renamed t b (distinct p) s = everywhere-renamed t b p s
  everywhere-renamed t b (path x y z) s = refl
  everywhere-renamed t b (graph n p) s = refl
  everywhere-renamed t b (orderby p os) s = refl
  everywhere-renamed t b (reduced p) s = refl
  everywhere-renamed t b (slice x l p) s = refl
  everywhere-renamed t b (group ks p rs) s = refl
  everywhere-renamed t b (service n x p) s = refl

  -- ---- the kinds, and fresh extends

  blank-renamed : (x : Bytes) → (is_var x ≡ true → mem x U ≡ true) → is_blank (rename_in_term f x) ≡ is_blank x
  unfolding rename_in_term
  blank-renamed x h = go (is_var x) refl
    where
      go : (b : Bool) → is_var x ≡ b → is_blank (cond b (f x) x) ≡ is_blank x
      go true e = var-blank (f x) (new x (h e)) ∙ sym (var-blank x e)
      go false e = refl

  triple-renamed : (t : Triple) → Sub (variables_of (t.subj ∷ t.pred ∷ t.obj ∷ [])) U → no_blank (rename_in_triple f t) ≡ no_blank t
  triple-renamed t s = ap₂ ◌&&◌ (at t.subj (mem-here t.subj _)) (ap₂ ◌&&◌ (at t.pred (mem-there t.pred t.subj _ (mem-here t.pred _))) (at t.obj (mem-there t.obj t.subj _ (mem-there t.obj t.pred _ (mem-here t.obj [])))))
    where
      at : (x : Bytes) → mem x (t.subj ∷ t.pred ∷ t.obj ∷ []) ≡ true → not (is_blank (rename_in_term f x)) ≡ not (is_blank x)
      at x m = ap not (blank-renamed x (λ e. s x (mem-variables x (t.subj ∷ t.pred ∷ t.obj ∷ []) e m)))

  triples-renamed : (ts : List Triple) → Sub (triple_variables ts) U → all no_blank (map (rename_in_triple f) ts) ≡ all no_blank ts
  unfolding all triple_variables
  triples-renamed [] s = refl
  triples-renamed (t ∷ ts) s = ap₂ ◌&&◌ (triple-renamed t (sub-left (variables_of (t.subj ∷ t.pred ∷ t.obj ∷ [])) (triple_variables ts) U s)) (triples-renamed ts (sub-right (variables_of (t.subj ∷ t.pred ∷ t.obj ∷ [])) (triple_variables ts) U s))

  pub countable-renamed : (p : Pattern) → Sub (names p) U → is_countable (rename_in_graph_pattern f p) ≡ is_countable p
  unfolding is_countable
  countable-renamed p s = everywhere-renamed _ (record { triples = triples-renamed; condition = λ e. condition-renamed e f; extended = λ v vs e m k. term-renamed f e; columns = λ cs. refl }) p s

  mem-renamed : (v : Bytes) (vs : List Bytes) → mem v U ≡ true → Sub vs U → mem (f v) (map f vs) ≡ mem v vs
  mem-renamed v vs m s = both_ways (mem (f v) (map f vs)) (mem v vs)
      (λ h. let k = mem-unmap f (f v) vs h in subst (λ u. mem u vs ≡ true) (sym (inj v k.0 m (s k.0 k.1) k.2)) k.1)
      (λ h. mem-map f v vs h)

  pub fresh-renamed : (p : Pattern) → Sub (names p) U → extends_fresh (rename_in_graph_pattern f p) ≡ extends_fresh p
  unfolding extends_fresh
  fresh-renamed p s = everywhere-renamed _ (record { triples = λ ts k. refl; condition = λ e. refl; extended = λ v vs e m k. ap not (mem-renamed v vs m k); columns = λ cs. refl }) p s

  -- ---- the names that stand in it

  mutual
    unfolding expression_vars expressions_vars rename_in_expression rename_in_expressions

    expression-renamed : (e : Expression) → Sub (expression_vars e) U → expression_vars (rename_in_expression f e) ≡ map f (expression_vars e)
    expression-renamed (term x) s = fields_renamed U f inj new (x ∷ []) s
    expression-renamed (bound v) s = refl
    expression-renamed (exists p) s = refl
    expression-renamed (apply o es) s = expressions-renamed es s
    expression-renamed (call n es) s = refl

    expressions-renamed : (es : Expressions) → Sub (expressions_vars es) U → expressions_vars (rename_in_expressions f es) ≡ map f (expressions_vars es)
    expressions-renamed eend s = refl
    expressions-renamed (econs e es) s = ap₂ ◌++◌ (expression-renamed e (sub-left (expression_vars e) (expressions_vars es) U s)) (expressions-renamed es (sub-right (expression_vars e) (expressions_vars es) U s)) ∙ sym (map-append f (expression_vars e) (expressions_vars es))

  module _ (of : Expression → List Bytes) (renamed : (e : Expression) → Sub (of e) U → of (rename_in_expression f e) ≡ map f (of e)) where
    both : (xs ys : List Bytes) {ls rs : List Bytes} → ls ≡ map f xs → rs ≡ map f ys → ls ++ rs ≡ map f (xs ++ ys)
    both xs ys a b = ap₂ ◌++◌ a b ∙ sym (map-append f xs ys)

    condition-names : (c : Condition) → Sub (condition_vars of c) U → condition_vars of (rename_in_condition f c) ≡ map f (condition_vars of c)
    unfolding condition_vars rename_in_condition
    condition-names always s = refl
    condition-names (provided e) s = renamed e s

    pub names-renamed : (p : Pattern) → Sub (names_with of p) U → names_with of (rename_in_graph_pattern f p) ≡ map f (names_with of p)
    unfolding names_with rename_in_graph_pattern
    names-renamed (bgp ts) s = bgp_vars-renamed U f inj new ts s
    names-renamed (path x y z) s = fields_renamed U f inj new (x ∷ z ∷ []) s
    names-renamed (join p q) s = both (names_with of p) (names_with of q) (names-renamed p (sub-left (names_with of p) (names_with of q) U s)) (names-renamed q (sub-right (names_with of p) (names_with of q) U s))
    names-renamed (union p q) s = both (names_with of p) (names_with of q) (names-renamed p (sub-left (names_with of p) (names_with of q) U s)) (names-renamed q (sub-right (names_with of p) (names_with of q) U s))
    names-renamed (minus p q) s = both (names_with of p) (names_with of q) (names-renamed p (sub-left (names_with of p) (names_with of q) U s)) (names-renamed q (sub-right (names_with of p) (names_with of q) U s))
    names-renamed (leftjoin p q c) s =
        let r : Sub (names_with of p ++ names_with of q) U = sub-left (names_with of p ++ names_with of q) (condition_vars of c) U s in
        both (names_with of p ++ names_with of q) (condition_vars of c) (both (names_with of p) (names_with of q) (names-renamed p (sub-left (names_with of p) (names_with of q) U r)) (names-renamed q (sub-right (names_with of p) (names_with of q) U r))) (condition-names c (sub-right (names_with of p ++ names_with of q) (condition_vars of c) U s))
    names-renamed (filter p e) s = both (names_with of p) (of e) (names-renamed p (sub-left (names_with of p) (of e) U s)) (renamed e (sub-right (names_with of p) (of e) U s))
    names-renamed (graph n p) s = both (variables_of (n ∷ [])) (names_with of p) (fields_renamed U f inj new (n ∷ []) (sub-left (variables_of (n ∷ [])) (names_with of p) U s)) (names-renamed p (sub-right (variables_of (n ∷ [])) (names_with of p) U s))
    names-renamed (extend v p e) s =
        let r : Sub (names_with of p ++ of e) U = sub-rest v (names_with of p ++ of e) U s in
        ap (λ l. f v ∷ l) (both (names_with of p) (of e) (names-renamed p (sub-left (names_with of p) (of e) U r)) (renamed e (sub-right (names_with of p) (of e) U r)))
    names-renamed (values cs rs) s = refl
    names-renamed (orderby p os) s = names-renamed p s
    names-renamed (project cs p) s = both cs (names_with of p) refl (names-renamed p (sub-right cs (names_with of p) U s))
    names-renamed (distinct p) s = names-renamed p s
    names-renamed (reduced p) s = names-renamed p s
    names-renamed (slice x l p) s = names-renamed p s
    names-renamed (group ks p rs) s =
        both (ks ++ aggregate_variables rs) (names_with of p) (both ks (aggregate_variables rs) refl (aggregates-renamed f rs)) (names-renamed p (sub-right (ks ++ aggregate_variables rs) (names_with of p) U s))
    names-renamed (service n x p) s = names-renamed p s

  pub all-names : (p : Pattern) → Sub (names p) U → names (rename_in_graph_pattern f p) ≡ map f (names p)
  all-names p s = names-renamed expression_vars expression-renamed p s

  pub known-names : (p : Pattern) → Sub (scoped_or_hidden p) U → scoped_or_hidden (rename_in_graph_pattern f p) ≡ map f (scoped_or_hidden p)
  known-names p s = names-renamed (λ e. []) (λ e k. refl) p s
